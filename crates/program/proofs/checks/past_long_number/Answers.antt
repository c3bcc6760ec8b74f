-- The number is read and below the bound, or not below it, or refused.
use Rattle.std.proofs.Common.{◌≡◌, arith, sym, ap, ◌∙◌}
use borrow.Author.Tests.{lt-ltb, le-ltb}
use Rattle.program.specs.declared.Reader.{Reader}
use Rattle.program.specs.Internal.Progress.{reached_number}
use Rattle.program.proofs.CodeLaws.{cond_yes, cond_no}
use Rattle.program.proofs.ProgressLaws.{slice-length}
use Rattle.program.proofs.CheckLaws.{long_refused, long_read}
use Rattle.program.proofs.checks.past_long_number.Goals as goal

pub returns-in-Ok : goal.returns-in-Ok
returns-in-Ok c =
    let here : c.at.result.place ≡ c.args.from = ap (λ (r : Reader). r.place) c.at.ensures in
    cond_yes _ _ (lt-ltb _ _ c.if-value-bound.true)
    ∙ long_read c.args.program.now c.args.from _ _ _ _ _ (omega (arith, slice-length c.args.program.now c.args.from))
    (ap reached_number (sym c.in-Ok.is) ∙ c.number.ensures)

pub returns-in_default : goal.returns-in_default
returns-in_default c =
    let here : c.at.result.place ≡ c.args.from = ap (λ (r : Reader). r.place) c.at.ensures in
    cond_no _ _ (le-ltb _ _ c.if-value-bound.false)
    ∙ long_read c.args.program.now c.args.from _ _ _ _ _ (omega (arith, slice-length c.args.program.now c.args.from))
    (ap reached_number (sym c.in-Ok.is) ∙ c.number.ensures)

pub returns-in_default-2 : goal.returns-in_default-2
returns-in_default-2 c =
    long_refused c.args.program.now c.args.from _ _ _ _ _ (ap reached_number (sym c.in_default.is) ∙ c.number.ensures)
