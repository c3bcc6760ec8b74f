-- The theorems, as they are proved.
use Rattle.machine.proofs.RunDemand2.{run_ran, run_place}
use Rattle.machine.proofs.Calls.{run_stands}
use Rattle.machine.proofs.laws.runs_are_steps.Goals as goal

pub returns-clause-ran : goal.returns-clause-ran
returns-clause-ran c = run_ran

pub returns-clause-stands : goal.returns-clause-stands
returns-clause-stands c = run_stands

pub returns-clause-place : goal.returns-clause-place
returns-clause-place c = run_place
