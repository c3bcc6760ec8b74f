-- Traces of an engine: lists of calls with their answers and what was lent at the end, where each call is tied to the one before it by one
-- of these predicates alone. The contracts of an engine's load, step, run and dispatch are these predicates, so a trace is all that such an
-- engine can do. Every trace is the plain machine's, and demand 3 holds of it: proofs/Traces.antt.
use Rattle.std.specs.Prelude.{ℕ, ◌≡◌, true, List, [], ◌∷◌, ◌++◌}
use Rattle.std.proofs.Math.Option.{Option}
use Rattle.graph.specs.Tables.{Lent}
use Rattle.program.specs.declared.Edition.{Edition}
use Rattle.machine.specs.Answers.{StepSaid, LoadingSaid, is_loaded}
use Rattle.machine.specs.Loading.{load}
use Rattle.machine.specs.Stepping.{step}
use Rattle.machine.specs.Running.{Ending, run}
use Rattle.machine.specs.Dispatching.{marks_of, list_of, handed_of, dispatch}
use Rattle.machine.specs.Dispatching as dispatching
use Rattle.machine.specs.Reached.{Call, a_step, a_run, a_dispatch, call_answers}

-- loading these bytes onto what was lent before
pub record Loaded (ed : Edition) (bytes : List ℕ) (before : Lent) (answer : LoadingSaid) (after : Lent) : Type 0 where
  pub says : answer ≡ (load ed bytes before).answer
  pub leaves : after ≡ (load ed bytes before).after

-- a step of the vertex v
pub record Stepped (ed : Edition) (bytes : List ℕ) (before : Lent) (v : ℕ) (answer : StepSaid) (after : Lent) : Type 0 where
  pub says : answer ≡ (step ed bytes before v).answer
  pub leaves : after ≡ (step ed bytes before v).after

-- a run with a budget
pub record Ran (ed : Edition) (bytes : List ℕ) (before : Lent) (budget : ℕ) (ending : Ending) (last : Option StepSaid) (taken : ℕ) (after : Lent) : Type 0 where
  pub ends : ending ≡ (run ed bytes before budget).ending
  pub last_is : last ≡ (run ed bytes before budget).last
  pub takes : taken ≡ (run ed bytes before budget).taken
  pub leaves : after ≡ (run ed bytes before budget).after

-- a dispatch with these marks, this list and a budget, and the marks, the list and the number of jobs in it afterwards
pub record Dispatched (ed : Edition) (bytes : List ℕ) (before : Lent) (marks list : List ℕ) (budget : ℕ) (ending : dispatching.Ending) (taken : ℕ) (after : Lent) (marks' list' : List ℕ) (handed : ℕ) : Type 0 where
  pub ends : ending ≡ (dispatch ed bytes before marks list budget).ending
  pub takes : taken ≡ (dispatch ed bytes before marks list budget).taken
  pub leaves : after ≡ (dispatch ed bytes before marks list budget).after
  pub marks_are : marks' ≡ marks_of (dispatch ed bytes before marks list budget).handed_out
  pub list_is : list' ≡ list_of (dispatch ed bytes before marks list budget).handed_out
  pub hands : handed ≡ handed_of (dispatch ed bytes before marks list budget).handed_out

-- A trace from a loading onto s₀: the calls behind it, their steps' answers, those of runs and dispatches among them, and what is lent at its end.
pub data Trace (ed : Edition) (bytes : List ℕ) (s₀ : Lent) : List Call → List StepSaid → Lent → Type 0 where
  load_first : {answer : LoadingSaid} {s : Lent} → Loaded ed bytes s₀ answer s → is_loaded answer ≡ true → Trace ed bytes s₀ [] [] s
  then_step :
      {cs : List Call} {answers : List StepSaid} {s s' : Lent} (v : ℕ) (answer : StepSaid) → Trace ed bytes s₀ cs answers s
      → Stepped ed bytes s v answer s' → Trace ed bytes s₀ (cs ++ (a_step v ∷ [])) (answers ++ (answer ∷ [])) s'
  then_run :
      {cs : List Call} {answers : List StepSaid} {s s' : Lent} (budget : ℕ) (ending : Ending) (last : Option StepSaid) (taken : ℕ)
      → Trace ed bytes s₀ cs answers s → Ran ed bytes s budget ending last taken s'
      → Trace ed bytes s₀ (cs ++ (a_run budget ∷ [])) (answers ++ call_answers ed bytes s (a_run budget)) s'
  then_dispatch :
      {cs : List Call} {answers : List StepSaid} {s s' : Lent} (marks list : List ℕ) (budget : ℕ) (ending : dispatching.Ending) (taken : ℕ)
      (marks' list' : List ℕ) (handed : ℕ) → Trace ed bytes s₀ cs answers s
      → Dispatched ed bytes s marks list budget ending taken s' marks' list' handed
      → Trace ed bytes s₀ (cs ++ (a_dispatch marks list budget ∷ [])) (answers ++ call_answers ed bytes s (a_dispatch marks list budget)) s'
