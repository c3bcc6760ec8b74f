-- The length is outside the limits, the main body is refused, or it ended.
use Rattle.std.proofs.Common.{sym, ap, ◌∙◌, arith}
use mathlib.Core.Logic.{inl, inr}
use borrow.Author.Tests.{eqb-true, eqb-false}
use Rattle.program.specs.Internal.Progress.{reached}
use Rattle.program.proofs.ProgressLaws.{passed_on}
use Rattle.program.proofs.WholeLaws.{read_outside, main_said}
use Rattle.program.proofs.reading.read.Goals as goal
use Rattle.program.proofs.reading.read.Goals.{then-is_empty-via-then-is_empty, then-is_empty-via-else-is_empty+then-program-gt-PROGRAM_BYTES}

pub returns-then-is_empty : goal.returns-then-is_empty
returns-then-is_empty c =
    rw c.into.ensures
    (read_outside _ _
    (elim c.then-is_empty.branch [
      | then-is_empty-via-then-is_empty w ↦ inl (eqb-true _ 0 (sym w.if-is_empty.ensures))
      | then-is_empty-via-else-is_empty+then-program-gt-PROGRAM_BYTES w ↦ inr w.if-program-gt-PROGRAM_BYTES.true
    ]))

pub returns-in_err-end : goal.returns-in_err-end
returns-in_err-end c =
    rw (passed_on _ _ c.from_residual.ensures)
    (main_said _ _ _ _ c.at.ensures (omega (arith, eqb-false _ 0 (sym c.if-is_empty.ensures)), c.if-program-gt-PROGRAM_BYTES.false)
    (ap reached (sym c.in_err-end.was) ∙ c.body.ensures))

pub returns : goal.returns
returns c =
    c.counted.ensures
    ∙ main_said _ _ _ _ c.at.ensures (omega (arith, eqb-false _ 0 (sym c.if-is_empty.ensures)), c.if-program-gt-PROGRAM_BYTES.false)
    (ap reached (sym c.in_ok-end.was) ∙ c.body.ensures)
