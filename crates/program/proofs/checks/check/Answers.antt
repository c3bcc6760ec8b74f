use Rattle.std.proofs.Common.{arith, refl, sym, ap, ◌∙◌, length, length-set}
use mathlib.Core.Bool.{false≢true}
use mathlib.Core.Logic.{inl, inr}
use borrow.Author.Tests.{eqb-true, eqb-false}
use Rattle.program.proofs.CheckLaws.{table_is, table_small, checking_first, checked_out, checked_unknown, checked_deep}
use Rattle.program.proofs.CheckLaws.{checked_number, checked_main_end, checked_first_end, checked_end, checked_opener, checked_past}
use Rattle.program.proofs.CheckLaws.{checked_short, outside_refused}
use Rattle.program.proofs.checks.check.Goals as goal
use Rattle.program.proofs.checks.check.Goals.{then-is_empty-via-then-is_empty, then-is_empty-via-else-is_empty+then-program-gt-PROGRAM_BYTES}

pub returns-then-is_empty : goal.returns-then-is_empty
returns-then-is_empty c = (
  outside_refused _ _
      (elim c.then-is_empty.branch [
        | then-is_empty-via-then-is_empty w ↦ inl (eqb-true _ 0 (sym w.if-is_empty.ensures))
        | then-is_empty-via-else-is_empty+then-program-gt-PROGRAM_BYTES w ↦ inr w.if-program-gt-PROGRAM_BYTES.true
      ]),
  refl,
  λ e. absurd (false≢true e),
)

pub loop-place-init : goal.loop-place-init
loop-place-init c =
    checking_first _ _ _ (omega (arith, eqb-false _ 0 (sym c.if-is_empty.ensures)), omega arith) c.requires
    (table_small c.fork_vertices.result (omega (arith, c.fork_vertices.ensures.1)))

pub returns-then-depth-eq0 : goal.returns-then-depth-eq0
returns-then-depth-eq0 c =
    checked_main_end c.loop-place.invariant _ c.loop-place-test.true c.if-first-eq-END.true c.if-depth-eq0.true c.mark_place.ensures
    _ (table_is _ _ c.fork_vertices.ensures.0)

pub loop-place-preserved-then-openers-depth-eq-FORK : goal.loop-place-preserved-then-openers-depth-eq-FORK
loop-place-preserved-then-openers-depth-eq-FORK c =
    checked_first_end c.loop-place.invariant _ c.loop-place-test.true c.if-first-eq-END.true c.if-depth-eq0.false
    c.if-openers-depth-eq-FORK.true c.mark_place.ensures

pub loop-place-preserved-else-openers-depth-eq-FORK : goal.loop-place-preserved-else-openers-depth-eq-FORK
loop-place-preserved-else-openers-depth-eq-FORK c =
    checked_end c.loop-place.invariant _ c.loop-place-test.true c.if-first-eq-END.true c.if-depth-eq0.false
    c.if-openers-depth-eq-FORK.false c.mark_place.ensures

-- behind a short job
pub loop-place-preserved-then-is_short_job : goal.loop-place-preserved-then-is_short_job
loop-place-preserved-then-is_short_job c =
    checked_short c.loop-place.invariant _ c.fork_vertices.result (c.is_short_job.ensures c.if-is_short_job.true) refl
    c.mark_place.ensures

pub returns-then-first-gt-FORCE : goal.returns-then-first-gt-FORCE
returns-then-first-gt-FORCE c = (
  checked_unknown c.loop-place.invariant c.loop-place-test.true c.if-first-gt-FORCE.true _ (table_is _ _ c.fork_vertices.ensures.0),
  ap length c.mark_place.ensures ∙ length-set c.loop-place.marks c.loop-place.place 1 ∙ c.loop-place.invariant.long,
  λ e. absurd (false≢true e),
)

pub returns-in_default : goal.returns-in_default
returns-in_default c = (
  checked_number c.loop-place.invariant _ _ c.loop-place-test.true (sym c.opens_number.ensures ∙ c.if-opens_number.true)
      c.number_bound.ensures c.past_number.ensures c.in_default.is _ (table_is _ _ c.fork_vertices.ensures.0),
  ap length c.mark_place.ensures ∙ length-set c.loop-place.marks c.loop-place.place 1 ∙ c.loop-place.invariant.long,
  λ e. absurd (false≢true e),
)

-- behind a number
pub loop-place-smaller-then-opens_number : goal.loop-place-smaller-then-opens_number
loop-place-smaller-then-opens_number c =
    let passed =
    checked_past c.loop-place.invariant c.mark_place.new.marks c.in-Some.past _ c.loop-place-test.true
    (sym c.opens_number.ensures ∙ c.if-opens_number.true) c.number_bound.ensures (sym c.in-Some.is ∙ c.past_number.ensures)
    c.mark_place.ensures in
    omega (arith, passed.1, passed.0.within)

pub loop-place-preserved-then-opens_number : goal.loop-place-preserved-then-opens_number
loop-place-preserved-then-opens_number c =
    (checked_past c.loop-place.invariant c.mark_place.new.marks c.in-Some.past _ c.loop-place-test.true
    (sym c.opens_number.ensures ∙ c.if-opens_number.true) c.number_bound.ensures (sym c.in-Some.is ∙ c.past_number.ensures)
    c.mark_place.ensures).0

pub returns-then-depth : goal.returns-then-depth
returns-then-depth c = (
  checked_deep c.loop-place.invariant c.loop-place-test.true c.if-first-eq-END.false c.if-first-gt-FORCE.false
      (sym c.opens_number.ensures ∙ c.if-opens_number.false) c.if-depth.true _ (table_is _ _ c.fork_vertices.ensures.0),
  ap length c.mark_place.ensures ∙ length-set c.loop-place.marks c.loop-place.place 1 ∙ c.loop-place.invariant.long,
  λ e. absurd (false≢true e),
)

pub loop-place-preserved : goal.loop-place-preserved
loop-place-preserved c =
    checked_opener c.loop-place.invariant _ _ c.loop-place-test.true c.if-first-eq-END.false c.if-first-gt-FORCE.false
    (sym c.opens_number.ensures ∙ c.if-opens_number.false) c.if-depth.false c.opened_behind.ensures c.mark_place.ensures

pub returns : goal.returns
returns c = (
  checked_out c.loop-place.invariant c.loop-place-test.false _ (table_is _ _ c.fork_vertices.ensures.0),
  c.loop-place.invariant.long,
  λ e. absurd (false≢true e),
)
