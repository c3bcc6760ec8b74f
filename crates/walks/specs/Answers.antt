-- "Where an answer is an enum, a definition gives this paper's number and values for each of its cases": the plain machine's answers have
-- them.
use Rattle.std.proofs.Math.Option.{Option, none, some}
use Rattle.refusal.specs.Reasons.{number}
use Rattle.machine.specs.Answers.{StepSaid}
use Rattle.machine.specs.Running as of_run
use Rattle.machine.specs.Dispatching as of_dispatch
use Rattle.engine.specs.Answers.{said}
use Rattle.walks.specs.declared.Ending.{Ending}
use Rattle.walks.specs.declared.Ending.TheVariants as of_ending
use Rattle.walks.specs.declared.DispatchEnding.{DispatchEnding}
use Rattle.walks.specs.declared.DispatchEnding.TheVariants as of_dispatch_ending
use Rattle.walks.specs.declared.LastStep.{LastStep}
use Rattle.walks.specs.declared.LastStep.TheVariants as of_last

-- how a run ends
abbrev pub ending_of : Ending → of_run.Ending
ending_of of_ending.Done = of_run.done
ending_of of_ending.Stuck = of_run.stuck
ending_of of_ending.Spent = of_run.spent
ending_of (of_ending.Refused r) = of_run.refused (number r.reason) r.place

-- its last step
abbrev pub last_of : LastStep → Option StepSaid
last_of of_last.NoStep = none
last_of (of_last.Step a) = some (said a)

-- how a dispatch ends
abbrev pub dispatch_ending_of : DispatchEnding → of_dispatch.Ending
dispatch_ending_of of_dispatch_ending.Done = of_dispatch.done
dispatch_ending_of of_dispatch_ending.Stuck = of_dispatch.stuck
dispatch_ending_of of_dispatch_ending.Waiting = of_dispatch.waiting
dispatch_ending_of of_dispatch_ending.Full = of_dispatch.full
dispatch_ending_of of_dispatch_ending.Spent = of_dispatch.spent
dispatch_ending_of (of_dispatch_ending.Refused r) = of_dispatch.refused (number r.reason) r.place
