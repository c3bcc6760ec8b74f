-- What the machine's calls answer, and the outcome of a call: its answer and what is lent afterwards.
use Rattle.std.specs.Prelude.{ℕ, ◌+◌, Bool, true, false}
use Rattle.graph.specs.Tables.{Lent}
use Rattle.graph.specs.Answers as of_graph
use Rattle.graph.specs.Answers.{Outcome}

-- "An accepted step says one of seven things: start, new v, edge a b, release v, transfer v, job (number, offset), stop." "An accepted step may
-- then also say yield." (note 10) A refusal has its number and place.
pub data StepSaid : Type 0 where
  start : StepSaid
  new : ℕ → StepSaid
  edge : ℕ → ℕ → StepSaid
  release : ℕ → StepSaid
  transfer : ℕ → StepSaid
  job : ℕ → ℕ → StepSaid
  stop : StepSaid
  yield : StepSaid
  refused : ℕ → ℕ → StepSaid

abbrev pub accepted : StepSaid → Bool
accepted start = true
accepted (new v) = true
accepted (edge a b) = true
accepted (release v) = true
accepted (transfer v) = true
accepted (job n o) = true
accepted stop = true
accepted yield = true
accepted (refused n p) = false

-- "A refusal gives its number and place, and every lent table and the tally hold what they held."
abbrev pub refuse : Lent → ℕ → ℕ → Outcome StepSaid
refuse s n p = record { answer = refused n p; after = s }

-- Loading says that it loaded, or is refused likewise.
pub data LoadingSaid : Type 0 where
  loaded : LoadingSaid
  loading_refused : ℕ → ℕ → LoadingSaid

abbrev pub is_loaded : LoadingSaid → Bool
is_loaded loaded = true
is_loaded (loading_refused n p) = false

abbrev pub refuse_loading : Lent → ℕ → ℕ → Outcome LoadingSaid
refuse_loading s n p = record { answer = loading_refused n p; after = s }

-- "the tally's third number": one step more
abbrev pub one_step : Lent → Lent
one_step s =
    record { vertices = s.vertices; edges = s.edges; made = s.made; held = s.held; steps = s.steps + 1 }

-- what a single command says, as a step says it
abbrev pub said_as : of_graph.CommandSaid → StepSaid
said_as of_graph.start = start
said_as (of_graph.new v) = new v
said_as (of_graph.edge a b) = edge a b
said_as (of_graph.release v) = release v
said_as (of_graph.transfer v) = transfer v
said_as of_graph.stop = stop
said_as of_graph.yield = yield
said_as (of_graph.refused n p) = refused n p
