-- A run under way: the vertex table as it is lent, an index for its edges, and its course; and what these stand for.
use Rattle.std.specs.Prelude.{ℕ, ◌<◌, ◌≤◌, ◌≡◌, Bool, true, false, ◌⊎◌, List, eqb, Result, Ok, Err}
use Rattle.refusal.specs.declared.Reason.{Reason}
use Rattle.graph.specs.declared.Answer.TheVariants.{Refused}
use Rattle.graph.specs.declared.Command.{Command}
use Rattle.graph.specs.declared.Command.TheVariants.{NewTd, NewEdge, Release, Transfer, Start, Stop, Yield}
use Rattle.graph.specs.Tests.{both, either}
use Rattle.graph.specs.Tables.{Lent, EXECUTING, RELEASED, usable_limit, edge_rows, status, in_count}
use Rattle.graph.specs.Sound as of_graph
use Rattle.graph.specs.Answers.{CommandSaid, said, accepted, Outcome}
use Rattle.graph.specs.Commands.{command}
use Rattle.index.specs.declared.Course.{Course}
use Rattle.index.specs.declared.Changed.{Changed}
use Rattle.index.specs.Layout.{nowhere, Indexed}
use Rattle.index.specs.Table.{live_rows, table_of}

-- all that is lent, where the index x of this course stands for the edge table, and e was lent for one
abbrev pub state_of : List ℕ → List ℕ → Course → List ℕ → Lent
state_of v x k e =
    record {
      vertices = v;
      edges = table_of x k.used k.peak e;
      made = k.tally.made;
      held = k.tally.held;
      steps = k.tally.steps;
    }

-- so it can be, for every edge table that has so many usable rows
pub record Ready (v x : List ℕ) (k : Course) (limit : ℕ) : Type 0 where
  pub indexed : Indexed x k.used
  pub live : k.tally.held ≡ live_rows x k.used
  pub below_peak : k.tally.held ≤ k.peak
  pub within : k.peak ≤ limit
  pub few : limit ≤ usable_limit
  pub sound : (e : List ℕ) → edge_rows e ≡ limit → of_graph.sound (state_of v x k e) ≡ true

-- what a command changes that gives its reason where it is refused: then nothing, and nobody may step who could not before
abbrev pub tried : Result Changed Reason → Course → Changed
tried (Ok r) k = r
tried (Err n) k = record { answer = Refused (record { reason = n; place = 0 }); course = k; lowest = nowhere; highest = 0 }

-- who does a command; a start has no caller
unfoldable pub caller_of : Command → ℕ
caller_of (NewTd t place scope) = t
caller_of (NewEdge t t1 t2) = t
caller_of (Release t t') = t
caller_of (Transfer t t') = t
caller_of (Start t) = t
caller_of (Stop t) = t
caller_of (Yield t) = t

-- t is a made vertex that executes
abbrev pub Executes : List ℕ → Course → ℕ → Type 0
Executes v k t = (t < k.tally.made) × (status v t ≡ EXECUTING)

-- a vertex may step, as far as its own row tells: it executes, or it is released and its word says that no edge leads into it
unfoldable pub may_step : List ℕ → ℕ → Bool
may_step v u = either (eqb (status v u) EXECUTING) (both (eqb (status v u) RELEASED) (eqb (in_count v u) 0))

-- who may step now that could not before lies between two numbers
abbrev pub Widens : List ℕ → ℕ → List ℕ → ℕ → ℕ → ℕ → Type 0
Widens v made v' made' lowest highest =
    (u : ℕ) → u < made' → may_step v' u ≡ true → ((u < made) × (may_step v u ≡ true)) ⊎ ((lowest ≤ u) × (u ≤ highest))

-- the command was done, for every edge table that has so many usable rows; one that is refused changes nothing
pub record Changes (given : Command) (v x : List ℕ) (k : Course) (limit : ℕ) (r : Changed) (v' x' : List ℕ) : Type 0 where
  pub does :
      (e : List ℕ) → edge_rows e ≡ limit
      → ◌≡◌ {A = Outcome CommandSaid}
      (record { answer = said r.answer; after = state_of v' x' r.course e })
      (command given (state_of v x k e))
  pub ready : Ready v' x' r.course limit
  pub widens : Widens v k.tally.made v' r.course.tally.made r.lowest r.highest
  pub turned : accepted (said r.answer) ≡ false → (v' ≡ v) × (x' ≡ x)
