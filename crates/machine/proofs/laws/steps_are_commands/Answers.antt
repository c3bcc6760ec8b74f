-- The theorems, as they are proved.
use Rattle.machine.proofs.StepDemand2.{step_does, step_refused, step_keeps, step_never_34, step_place}
use Rattle.machine.proofs.laws.steps_are_commands.Goals as goal

pub returns-clause-does : goal.returns-clause-does
returns-clause-does c = step_does

pub returns-clause-refused : goal.returns-clause-refused
returns-clause-refused c = step_refused

pub returns-clause-keeps : goal.returns-clause-keeps
returns-clause-keeps c = step_keeps

pub returns-clause-never_34 : goal.returns-clause-never_34
returns-clause-never_34 c = step_never_34

pub returns-clause-place : goal.returns-clause-place
returns-clause-place c = step_place
