-- The theorems, as they are proved.
use Rattle.machine.proofs.DispatchDemand2.{dispatch_ran}
use Rattle.machine.proofs.Calls.{dispatch_stands}
use Rattle.machine.proofs.HandedOut.{handed_are, marks_only_set}
use Rattle.machine.proofs.laws.dispatches_are_steps.Goals as goal

pub returns-clause-ran : goal.returns-clause-ran
returns-clause-ran c = dispatch_ran

pub returns-clause-stands : goal.returns-clause-stands
returns-clause-stands c = dispatch_stands

pub returns-clause-handed : goal.returns-clause-handed
returns-clause-handed c = handed_are

pub returns-clause-marks : goal.returns-clause-marks
returns-clause-marks c = marks_only_set
