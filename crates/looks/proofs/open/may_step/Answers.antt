-- Executing, released, and the word, tested in that order.
use mathlib.Core.Path.{sym, ◌∙◌}
use borrow.Author.Tests.{eq-eqb, ne_eqb}
use Rattle.graph.proofs.TestLaws.{either_left, either_skip, either-false, both-false_left}
use Rattle.index.specs.Underway.{may_step}
use Rattle.engine.proofs.DueLaws.{both_skip}
use Rattle.looks.proofs.open.may_step.Goals as goal

pub returns-then-status-eq-EXECUTING : goal.returns-then-status-eq-EXECUTING
unfolding may_step
returns-then-status-eq-EXECUTING c =
    let runs = eq-eqb _ _ c.if-status-eq-EXECUTING.true in
    runs ∙ sym (either_left _ runs)

pub returns-then-status-eq-RELEASED : goal.returns-then-status-eq-RELEASED
unfolding may_step
returns-then-status-eq-RELEASED c = both_skip _ (eq-eqb _ _ c.if-status-eq-RELEASED.true) ∙ either_skip _ (ne_eqb _ _ c.if-status-eq-EXECUTING.false)

pub returns-else-status-eq-RELEASED : goal.returns-else-status-eq-RELEASED
unfolding may_step
returns-else-status-eq-RELEASED c =
    let not_released = ne_eqb _ _ c.if-status-eq-RELEASED.false in
    not_released ∙ sym (either-false (ne_eqb _ _ c.if-status-eq-EXECUTING.false) (both-false_left _ not_released))
