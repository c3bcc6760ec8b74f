-- `append_refusal` meets its contract: the tests are the definition's, in the same order.
use mathlib.Core.Path.{refl}
use borrow.Author.Tests.{eq-eqb, ne_eqb}
use Rattle.graph.specs.Commands.{append_refusal}
use Rattle.graph.proofs.TestLaws.{not_of_true, not_of_false, either_left, either_right, either-false}
use Rattle.graph.proofs.CallLaws.{pass, halt, answered_full, answered_free}
use Rattle.index.proofs.CommandLaws.{path_found, rows_there}
use Rattle.index.proofs.commands.append_refusal.Goals as goal

pub returns-then-source-target : goal.returns-then-source-target
unfolding append_refusal
returns-then-source-target c =
    λ e rows.
    elim c.then-source-target.branch [
      | goal.then-source-target-via-then-source-target w ↦ halt _ _ (not_of_true (either_left _ (eq-eqb _ _ w.if-source-target.true)))
      | goal.then-source-target-via-else-source-target+then-reaches w ↦
          halt _ _
          (not_of_true
          (either_right _ (path_found _ _ _ e c.requires.indexed.1 _ c.requires.held_le_peak.3 c.requires.indexed.0 _ w.reaches.ensures w.if-reaches.true)))
    ]

pub returns-then-limit-course : goal.returns-then-limit-course
unfolding append_refusal
returns-then-limit-course c =
    λ e rows.
    pass _
    (not_of_false
    (either-false (ne_eqb _ _ c.if-source-target.false)
    (path_found _ _ _ e c.requires.indexed.1 _ c.requires.held_le_peak.3 c.requires.indexed.0 _ c.reaches.ensures c.if-reaches.false)))
    (halt _ _ (answered_full (rows_there _ _ _ e c.requires.indexed.1 c.requires.held_le_peak.0 c.requires.held_le_peak.1 rows) c.if-limit-course.true))

pub returns : goal.returns
unfolding append_refusal
returns c =
    λ e rows.
    pass _
    (not_of_false
    (either-false (ne_eqb _ _ c.if-source-target.false)
    (path_found _ _ _ e c.requires.indexed.1 _ c.requires.held_le_peak.3 c.requires.indexed.0 _ c.reaches.ensures c.if-reaches.false)))
    (pass _ (answered_free (rows_there _ _ _ e c.requires.indexed.1 c.requires.held_le_peak.0 c.requires.held_le_peak.1 rows) c.if-limit-course.false) refl)
