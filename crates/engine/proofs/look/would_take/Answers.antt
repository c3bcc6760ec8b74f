-- A refusal is not accepted, a job is, and a command is as its refusal says.
use mathlib.Core.Path.{refl, ◌∙◌}
use Rattle.engine.specs.Internal.Underway.{takes}
use Rattle.engine.proofs.LowestLaws.{takes_case}
use Rattle.engine.proofs.look.would_take.Goals as goal

pub returns-in-Refused : goal.returns-in-Refused
unfolding takes
returns-in-Refused c = takes_case _ c.in-Refused.is refl

pub returns-in-Job : goal.returns-in-Job
unfolding takes
returns-in-Job c = takes_case _ c.in-Job.is refl

pub returns-in-Command : goal.returns-in-Command
unfolding takes
returns-in-Command c = takes_case _ c.in-Command.is (c.is_ok.ensures.value ∙ c.refusal.ensures)
