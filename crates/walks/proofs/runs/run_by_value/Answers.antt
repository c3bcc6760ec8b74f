-- A walk in which nobody is busy, and how it ends.
use mathlib.Core.Path.{refl, sym}
use Rattle.graph.proofs.TestLaws.{true-false}
use Rattle.graph.proofs.SoundChecks.{sound_rows}
use Rattle.machine.proofs.LookLaws.{run_turned}
use Rattle.engine.proofs.DueLaws.{steppable-sound}
use Rattle.engine.proofs.LowestLaws.{none_marked}
use Rattle.walks.proofs.RunLaws.{run_ends, ran}
use Rattle.walks.proofs.runs.run_by_value.Goals as goal

pub returns-then-not-is_steppable : goal.returns-then-not-is_steppable
returns-then-not-is_steppable c =
    ran _ _ _ _ _ _ (run_turned _ _ _ _ (sym c.if-not-is_steppable.ensures)) (rw c.into.ensures refl) refl refl refl

pub walk-rested-requires : goal.walk-rested-requires
walk-rested-requires c =
    let takes_steps = sym c.if-not-is_steppable.ensures in
    (steppable-sound _ takes_steps, λ q. true-false q refl)

pub returns : goal.returns
returns c =
    let takes_steps = sym c.if-not-is_steppable.ensures in
    ran _ _ _ _ _ _ (run_ends _ _ _ _ _ _ _ _ _ takes_steps (none_marked 1) c.walk-rested.ensures.0 c.at_end-ending.ensures) refl refl refl refl

pub at_end-ending-requires : goal.at_end-ending-requires
at_end-ending-requires c = (sound_rows _ c.walk-rested.ensures.0.walked.still_sound).0
