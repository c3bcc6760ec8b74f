-- The words in which demand 2 is stated of loading, of steps, of runs and of dispatch: "A step of a loaded program is the next command of the
-- published encoding, taken where that command is, a run only such steps, and the reader takes exactly the programs of document 01's form, as
-- loading does where the rows they need are lent" (docs/ENGINE.md, "The three demands"; the form is its "Program bytes"). A dispatch is only such
-- steps, too. The theorems are in proofs/LoadLaws.antt, StepDemand2.antt, RunDemand2.antt and DispatchDemand2.antt.
use Rattle.std.specs.Prelude.{ℕ, suc, ◌+◌, ◌*◌, ◌<◌, ◌≤◌, ◌≡◌, ◌⊎◌, true, false, List, [], ◌∷◌, length}
use Rattle.std.proofs.Math.Option.{Option, none, some}
use Rattle.graph.specs.Tables.{Lent, FINISHED, vertex_words, place_word, phase_word, made_word, future_word, vertex_rows, edge_rows, status}
use Rattle.refusal.specs.Refusals.{no_such_vertex, vertex_is_new, vertex_is_finished, number_malformed, job_too_large, busy_table_too_short}
use Rattle.refusal.specs.Refusals.{too_few_vertex_rows, too_few_edge_rows, unsound_tables, nothing_starts, no_such_future}
use Rattle.graph.specs.Answers as of_graph
use Rattle.graph.specs.Commands.{command}
use Rattle.graph.specs.Demand2.{graph, SameBut}
use Rattle.graph.specs.declared.Command as single
use Rattle.graph.specs.Answers.{Outcome}
use Rattle.program.specs.Trees.{Body}
use Rattle.program.specs.Encodings as needs
use Rattle.program.specs.declared.Edition.{Edition}
use Rattle.program.specs.Reader.{program, refusal, reading}
use Rattle.machine.specs.Answers.{StepSaid, accepted, refuse, said_as}
use Rattle.machine.specs.Stepping.{steppable, Own, own_of, Due, refusal_due, job_due, command_due, due, step}
use Rattle.machine.specs.Running.{can_step, Ending, done, stuck, spent, refused, RunOutcome, ended}
use Rattle.machine.specs.Dispatching.{is_busy, Desk, desk, marks_of, list_of, handed_of, room, hand_out}
use Rattle.machine.specs.Dispatching as dispatching

-- LOADING
-- "where the rows they need are lent"
pub record Lends (ed : Edition) (b : Body) (s : Lent) : Type 0 where
  pub enough_vertex_rows : needs.vertices_made ed b ≤ vertex_rows s.vertices
  pub enough_edge_rows : needs.edge_rows_needed ed b ≤ edge_rows s.edges

-- why loading is refused: as reading is, or "10 fewer than V vertex rows", or "11 too few edge rows"
pub data Unloaded (ed : Edition) (bytes : List ℕ) (s : Lent) : ℕ → ℕ → Type 0 where
  unread : {n p : ℕ} → reading ed bytes ≡ refusal n p → Unloaded ed bytes s n p
  few_vertex_rows :
      (b : Body) → reading ed bytes ≡ program b → vertex_rows s.vertices < needs.vertices_made ed b
      → Unloaded ed bytes s too_few_vertex_rows 0
  few_edge_rows :
      (b : Body) → reading ed bytes ≡ program b → needs.vertices_made ed b ≤ vertex_rows s.vertices
      → edge_rows s.edges < needs.edge_rows_needed ed b → Unloaded ed bytes s too_few_edge_rows 0

-- "the first of 2 to 7 by place", and 43 "by place among 2 to 7": these refusals have a place. All others have the place 0, as `load_place`,
-- `step_place` and `run_place` say.
abbrev pub HasPlace : ℕ → Type 0
HasPlace n = ((number_malformed ≤ n) × (n ≤ job_too_large)) ⊎ (n ≡ no_such_future)

-- STEPS
-- where v's own words stand
abbrev pub OwnWord : ℕ → ℕ → Type 0
OwnWord v i =
    (i ≡ vertex_words * v + place_word) ⊎ (i ≡ vertex_words * v + phase_word)
    ⊎ ((vertex_words * v + made_word ≤ i) × (i ≤ vertex_words * v + future_word))

-- what a step of v adds to what its command left: v's own words become w, no other word changes, and the step is counted
pub record Adds (v : ℕ) (w : Own) (left after : Lent) : Type 0 where
  pub same_graph : graph after ≡ graph left
  pub own_words : own_of after v ≡ w
  pub same_vertex_words : SameBut (OwnWord v) left.vertices after.vertices
  pub same_edges : after.edges ≡ left.edges
  pub same_made : after.made ≡ left.made
  pub same_held : after.held ≡ left.held
  pub one_step : after.steps ≡ left.steps + 1

-- a step of v that is the command c: it says what c says, refused exactly where c is, and leaves what c leaves but for what it adds
pub record IsCommand (c : single.Command) (w : Own) (s : Lent) (v : ℕ) (o : Outcome StepSaid) : Type 0 where
  pub says : o.answer ≡ said_as (command c s).answer
  pub refused_keeps : accepted o.answer ≡ false → o.after ≡ s
  pub taken_adds : accepted o.answer ≡ true → Adds v w (command c s).after o.after

-- a step of v is what is due
abbrev pub Does : Lent → ℕ → Outcome StepSaid → Due → Type 0
Does s v o (refusal_due n) = o ≡ refuse s n 0
Does s v o (job_due n p w) = (o.answer ≡ StepSaid.job n p) × Adds v w s o.after
Does s v o (command_due c w) = IsCommand c w s v o

-- the refusals that come before any command
abbrev pub Before : ℕ → Type 0
Before n = (n ≡ unsound_tables) ⊎ (n ≡ no_such_vertex) ⊎ (n ≡ vertex_is_new) ⊎ (n ≡ vertex_is_finished) ⊎ (n ≡ nothing_starts)

-- why a step is refused: before any command, or as its command is
pub data Refused (ed : Edition) (bytes : List ℕ) (s : Lent) (v : ℕ) : ℕ → ℕ → Type 0 where
  before : {n : ℕ} → due ed bytes s v ≡ refusal_due n → Before n → Refused ed bytes s v n 0
  by_command :
      {n p : ℕ} (c : single.Command) (w : Own) → due ed bytes s v ≡ command_due c w → (command c s).answer ≡ of_graph.refused n p
      → Refused ed bytes s v n p

-- RUNS
-- "the lowest vertex whose step would be accepted"
pub record Lowest (ed : Edition) (bytes : List ℕ) (s : Lent) (v : ℕ) : Type 0 where
  pub can : can_step ed bytes s v ≡ true
  pub none_lower : (u : ℕ) → u < v → can_step ed bytes s u ≡ false

-- so many steps from s, each of the lowest vertex that can step; the last of them said this; they leave s'
pub data Steps (ed : Edition) (bytes : List ℕ) (s : Lent) : ℕ → Option StepSaid → Lent → Type 0 where
  no_step : Steps ed bytes s 0 none s
  one_more :
      {n : ℕ} {last : Option StepSaid} {s' : Lent} (v : ℕ) → Steps ed bytes s n last s' → Lowest ed bytes s' v
      → Steps ed bytes s (suc n) (some (step ed bytes s' v).answer) (step ed bytes s' v).after

-- "all vertices made are finished"
abbrev pub AllFinished : Lent → Type 0
AllFinished s = (v : ℕ) → v < s.made → status s.vertices v ≡ FINISHED

-- "Before each step it looks: done if all vertices made are finished; stuck if no step would be accepted; spent if the budget is used."
abbrev pub Looks : Edition → List ℕ → ℕ → ℕ → Lent → Ending → Type 0
Looks ed bytes budget taken s done = AllFinished s
Looks ed bytes budget taken s stuck = (AllFinished s → ⊥) × ((v : ℕ) → can_step ed bytes s v ≡ false)
Looks ed bytes budget taken s spent = (AllFinished s → ⊥) × ((v : ℕ) × Lowest ed bytes s v) × (taken ≡ budget)
Looks ed bytes budget taken s (refused n p) = ⊥

-- a run's outcome: refused by 12, or such steps
pub data OnlySuchSteps (ed : Edition) (bytes : List ℕ) (s : Lent) (budget : ℕ) (o : RunOutcome) : Type 0 where
  run_refused : steppable s ≡ false → o ≡ ended (refused unsound_tables 0) none 0 s → OnlySuchSteps ed bytes s budget o
  run_steps :
      steppable s ≡ true → Steps ed bytes s o.taken o.last o.after → o.taken ≤ budget
      → Looks ed bytes budget o.taken o.after o.ending → o.after.steps ≡ s.steps + o.taken → OnlySuchSteps ed bytes s budget o

-- DISPATCH
-- "the lowest vertex that can step and is not busy"
pub record LowestFree (ed : Edition) (bytes : List ℕ) (s : Lent) (marks : List ℕ) (v : ℕ) : Type 0 where
  pub can : can_step ed bytes s v ≡ true
  pub not_busy : is_busy marks v ≡ false
  pub none_lower : (u : ℕ) → u < v → can_step ed bytes s u ≡ true → is_busy marks u ≡ true

-- Steps from s with the marks and the list of d, the vertices that they name and their answers: each is of the lowest such vertex of its time, and
-- the list has a row left before it. They leave s' and d'.
pub data FreeSteps (ed : Edition) (bytes : List ℕ) : Lent → Desk → List (ℕ × StepSaid) → Lent → Desk → Type 0 where
  no_turn : {s : Lent} {d : Desk} → FreeSteps ed bytes s d [] s d
  turn :
      {s s' : Lent} {d d' : Desk} {steps : List (ℕ × StepSaid)} (v : ℕ) → LowestFree ed bytes s (marks_of d) v
      → handed_of d < room (list_of d)
      → FreeSteps ed bytes (step ed bytes s v).after (hand_out v (step ed bytes s v).answer d) steps s' d'
      → FreeSteps ed bytes s d ((v, (step ed bytes s v).answer) ∷ steps) s' d'

-- "it ends when the list is full, only busy vertices could step (waiting), all are finished (done), none can step (stuck) or the budget is used
-- (spent)"
abbrev pub DispatchLooks : Edition → List ℕ → ℕ → ℕ → Lent → Desk → dispatching.Ending → Type 0
DispatchLooks ed bytes budget taken s d dispatching.done = AllFinished s
DispatchLooks ed bytes budget taken s d dispatching.stuck = (AllFinished s → ⊥) × ((v : ℕ) → can_step ed bytes s v ≡ false)
DispatchLooks ed bytes budget taken s d dispatching.waiting =
    (AllFinished s → ⊥) × ((v : ℕ) × (can_step ed bytes s v ≡ true))
    × ((v : ℕ) → can_step ed bytes s v ≡ true → is_busy (marks_of d) v ≡ true)
DispatchLooks ed bytes budget taken s d dispatching.full =
    (AllFinished s → ⊥) × ((v : ℕ) × LowestFree ed bytes s (marks_of d) v) × (room (list_of d) ≤ handed_of d)
DispatchLooks ed bytes budget taken s d dispatching.spent =
    (AllFinished s → ⊥) × ((v : ℕ) × LowestFree ed bytes s (marks_of d) v) × (handed_of d < room (list_of d)) × (taken ≡ budget)
DispatchLooks ed bytes budget taken s d (dispatching.refused n p) = ⊥

-- a dispatch's outcome: refused by 12 or 44, or such steps
pub data OnlyFreeSteps (ed : Edition) (bytes : List ℕ) (s : Lent) (marks list : List ℕ) (budget : ℕ) (steps : List (ℕ × StepSaid)) (o : dispatching.Outcome) : Type 0 where
  tables_refused :
      steppable s ≡ false → steps ≡ [] → o ≡ dispatching.ended (dispatching.refused unsound_tables 0) 0 s (desk marks list 0)
      → OnlyFreeSteps ed bytes s marks list budget steps o
  marks_refused :
      steppable s ≡ true → length marks < vertex_rows s.vertices → steps ≡ []
      → o ≡ dispatching.ended (dispatching.refused busy_table_too_short 0) 0 s (desk marks list 0)
      → OnlyFreeSteps ed bytes s marks list budget steps o
  takes_free_steps :
      steppable s ≡ true → vertex_rows s.vertices ≤ length marks
      → FreeSteps ed bytes s (desk marks list 0) steps o.after o.handed_out → o.taken ≡ length steps → o.taken ≤ budget
      → DispatchLooks ed bytes budget o.taken o.after o.handed_out o.ending → o.after.steps ≡ s.steps + o.taken
      → OnlyFreeSteps ed bytes s marks list budget steps o
