-- One that may step is free as its mark says; beyond the marks nobody is busy.
use mathlib.Core.Path.{refl, sym, ◌∙◌}
use borrow.Author.Tests.{eq-eqb, le-leb}
use lib.ListN.{get_or-eq_default}
use Rattle.graph.proofs.TestLaws.{both-false_left}
use Rattle.looks.proofs.OpenLaws.{free_as_marked}
use Rattle.looks.proofs.open.is_free.Goals as goal

pub returns-then-busy-at : goal.returns-then-busy-at
returns-then-busy-at c =
    let marks = c.args.busy.now in
    free_as_marked _ marks _ (sym c.may_step.ensures ∙ c.if-may_step.true)
    (le-leb _ _ c.if-busy-at.true ∙ sym (eq-eqb _ _ (get_or-eq_default marks 0 c.if-busy-at.true)))

pub returns-else-busy-at : goal.returns-else-busy-at
returns-else-busy-at c = free_as_marked _ c.args.busy.now _ (sym c.may_step.ensures ∙ c.if-may_step.true) refl

pub returns-else-may_step : goal.returns-else-may_step
returns-else-may_step c = c.if-may_step.false ∙ sym (both-false_left _ (sym c.may_step.ensures ∙ c.if-may_step.false))
