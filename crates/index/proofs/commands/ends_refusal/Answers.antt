-- `ends_refusal` meets its contract: the tests are the definition's, but that the target's status is looked at before the caller.
use mathlib.Core.Path.{refl}
use borrow.Author.Tests.{eq-eqb, ne_eqb}
use Rattle.graph.specs.Commands.{ends_refusal}
use Rattle.graph.proofs.TestLaws.{either_left, either_right, either-false}
use Rattle.graph.proofs.CallLaws.{pass, halt}
use Rattle.index.proofs.CommandLaws.{own_refusal, first_not_made, second_not_made}
use Rattle.index.proofs.commands.ends_refusal.Goals as goal

pub returns-then-tally-source : goal.returns-then-tally-source
unfolding ends_refusal
returns-then-tally-source c =
    λ e known.
    elim c.then-tally-source.branch [
      | goal.then-tally-source-via-then-tally-source w ↦ first_not_made _ _ _ _ _ known w.if-tally-source.true
      | goal.then-tally-source-via-else-tally-source+then-tally-target w ↦ second_not_made _ _ _ _ _ known w.if-tally-target.true
    ]

pub returns-then-status-eq-NEW : goal.returns-then-status-eq-NEW
unfolding ends_refusal
returns-then-status-eq-NEW c =
    λ e known.
    own_refusal _ _ _ _ known c.requires.0 c.if-tally-source.false c.if-tally-target.false
    (pass _
    (elim c.then-status-eq-NEW.branch [
      | goal.then-status-eq-NEW-via-then-status-eq-NEW w ↦ either_right _ (either_left _ (eq-eqb _ _ w.if-status-eq-NEW.true))
      | goal.then-status-eq-NEW-via-else-status-eq-NEW+then-status-eq-RELEASED w ↦ either_right _ (either_right _ (eq-eqb _ _ w.if-status-eq-RELEASED.true))
      | goal.then-status-eq-NEW-via-else-status-eq-NEW+else-status-eq-RELEASED+then-target-caller w ↦ either_left _ (eq-eqb _ _ w.if-target-caller.true)
    ])
    refl)

pub returns : goal.returns
unfolding ends_refusal
returns c =
    λ e known.
    own_refusal _ _ _ _ known c.requires.0 c.if-tally-source.false c.if-tally-target.false
    (halt _ _
    (either-false (ne_eqb _ _ c.if-target-caller.false) (either-false (ne_eqb _ _ c.if-status-eq-NEW.false) (ne_eqb _ _ c.if-status-eq-RELEASED.false))))
