-- "Where an answer is an enum, a definition gives this paper's number and values for each of its cases": the plain machine's answers have
-- them.
use Rattle.std.specs.Prelude as of_code
use Rattle.std.specs.Prelude.{ℕ, Result, Ok, Err, Some, None, ⊤}
use Rattle.std.proofs.Math.Option.{Option, none, some}
use Rattle.refusal.specs.declared.Refusal.{Refusal}
use Rattle.refusal.specs.Reasons.{number}
use Rattle.machine.specs.Answers.{StepSaid, LoadingSaid, loaded, loading_refused}
use Rattle.machine.specs.Running.{Choice, choose, no_choice, choice_refused}
use Rattle.machine.specs.Stepping as machine
use Rattle.engine.specs.declared.Answer.{Answer}
use Rattle.engine.specs.declared.Answer.TheVariants as of_answer
use Rattle.engine.specs.declared.Own.{Own}
use Rattle.engine.specs.declared.Due.{Due}
use Rattle.engine.specs.declared.Due.TheVariants as of_due

-- what loading says
abbrev pub loading_said : Result ⊤ Refusal → LoadingSaid
loading_said (Ok done) = loaded
loading_said (Err r) = loading_refused (number r.reason) r.place

-- what a step says
abbrev pub said : Answer → StepSaid
said of_answer.Start = StepSaid.start
said (of_answer.New v) = StepSaid.new v
said (of_answer.Edge a b) = StepSaid.edge a b
said (of_answer.Release v) = StepSaid.release v
said (of_answer.Transfer v) = StepSaid.transfer v
said (of_answer.Job n o) = StepSaid.job n o
said of_answer.Stop = StepSaid.stop
said of_answer.Yield = StepSaid.yield
said (of_answer.Refused r) = StepSaid.refused (number r.reason) r.place

-- the lowest vertex whose step would be accepted
abbrev pub choice_of : Result (of_code.Option ℕ) Refusal → Choice
choice_of (Ok (Some v)) = choose v
choice_of (Ok None) = no_choice
choice_of (Err r) = choice_refused (number r.reason) r.place

-- a vertex, if there is one
abbrev pub vertex_of : of_code.Option ℕ → Option ℕ
vertex_of (Some v) = some v
vertex_of None = none

-- a vertex's own words
abbrev pub own_words : Own → machine.Own
own_words w = machine.own w.place w.phase w.first w.second w.third w.latest

-- what is due at a step
abbrev pub due_of : Due → machine.Due
due_of (of_due.Refused r) = machine.refusal_due (number r)
due_of (of_due.Job n o w) = machine.job_due n o (own_words w)
due_of (of_due.Command c w) = machine.command_due c (own_words w)
