-- What can be reached from a loading, and lists of calls. "It begins with the tables and tally that loading leaves, and for each step in turn
-- does to them what .. say of the vertex named, or nothing where a refusal below is due."
use Rattle.std.specs.Prelude.{ℕ, zero, suc, ◌≡◌, Bool, true, false, cond, List, [], ◌∷◌, ◌++◌, map, leb, ltb, length}
use Rattle.std.proofs.Math.Option.{Option, none, some}
use Rattle.graph.specs.Tables.{Lent, vertex_rows}
use Rattle.program.specs.declared.Edition.{Edition}
use Rattle.machine.specs.Answers.{StepSaid, accepted, is_loaded}
use Rattle.machine.specs.Loading.{load}
use Rattle.machine.specs.Stepping.{steppable, step}
use Rattle.machine.specs.Running.{lowest, all_finished, refused, RunOutcome, run}
use Rattle.machine.specs.Dispatching.{Desk, desk, marks_of, list_of, handed_of, room, hand_out, lowest_free, dispatch}
use Rattle.machine.specs.Dispatching as dispatching

-- From the loading of these bytes onto s₀, by steps with these answers, this is lent.
pub data Reached (ed : Edition) (bytes : List ℕ) (s₀ : Lent) : List StepSaid → Lent → Type 0 where
  begun : is_loaded (load ed bytes s₀).answer ≡ true → Reached ed bytes s₀ [] (load ed bytes s₀).after
  stepped :
      {answers : List StepSaid} {s : Lent} → Reached ed bytes s₀ answers s → (v : ℕ)
      → Reached ed bytes s₀ (answers ++ ((step ed bytes s v).answer ∷ [])) (step ed bytes s v).after

-- A call names a vertex to step, or a budget to run, or marks, a list and a budget to dispatch.
pub data Call : Type 0 where
  a_step : ℕ → Call
  a_run : ℕ → Call
  a_dispatch : (marks list : List ℕ) → (budget : ℕ) → Call

-- "A run lent the same stands in a list as the steps that it makes": their answers
unfoldable pub go_on : Edition → List ℕ → (Lent → List StepSaid) → Lent → Bool → Option ℕ → List StepSaid
go_on ed bytes again s true v = []
go_on ed bytes again s false none = []
go_on ed bytes again s false (some v) = (step ed bytes s v).answer ∷ again (step ed bytes s v).after

unfoldable pub run_answers : Edition → List ℕ → ℕ → Lent → List StepSaid
run_answers ed bytes zero s = []
run_answers ed bytes (suc budget) s = go_on ed bytes (run_answers ed bytes budget) s (all_finished s) (lowest ed bytes s)

-- the last of a list of answers, or what was answered before, where there is none
unfoldable pub last_or : Option StepSaid → List StepSaid → Option StepSaid
last_or before [] = before
last_or before (a ∷ answers) = last_or (some a) answers

-- each of them is accepted
unfoldable pub AllAccepted : List StepSaid → Type 0
AllAccepted [] = Unit {0}
AllAccepted (a ∷ answers) = (accepted a ≡ true) × AllAccepted answers

-- These are the answers of the steps that a run makes: the run ends "with the last accepted step and the steps taken, or "none" and 0". A
-- refused run makes none.
pub record StandsAs (answers : List StepSaid) (o : RunOutcome) : Type 0 where
  pub all_accepted : AllAccepted answers
  pub last_of_them : o.last ≡ last_or none answers
  pub their_number : o.taken ≡ length answers
  pub refused_none : (n p : ℕ) → o.ending ≡ refused n p → answers ≡ []

-- A dispatch stands in a list as the steps that it makes, too: the vertex that each of them names, and its answer.
unfoldable pub go_on_with : Edition → List ℕ → (Lent → Desk → List (ℕ × StepSaid)) → Lent → Desk → (finished : Bool) (any free : Option ℕ) (left : Bool) → List (ℕ × StepSaid)
go_on_with ed bytes again s d true any free left = []
go_on_with ed bytes again s d false none free left = []
go_on_with ed bytes again s d false (some u) none left = []
go_on_with ed bytes again s d false (some u) (some v) false = []
go_on_with ed bytes again s d false (some u) (some v) true =
    (v, (step ed bytes s v).answer) ∷ again (step ed bytes s v).after (hand_out v (step ed bytes s v).answer d)

unfoldable pub steps_on : Edition → List ℕ → ℕ → Lent → Desk → List (ℕ × StepSaid)
steps_on ed bytes zero s d = []
steps_on ed bytes (suc budget) s d =
    go_on_with ed bytes (steps_on ed bytes budget) s d (all_finished s) (lowest ed bytes s) (lowest_free ed bytes s (marks_of d))
    (ltb (handed_of d) (room (list_of d)))

unfoldable pub dispatch_steps : Edition → List ℕ → Lent → (marks list : List ℕ) → (budget : ℕ) → List (ℕ × StepSaid)
dispatch_steps ed bytes s marks list budget =
    cond (steppable s) (cond (leb (vertex_rows s.vertices) (length marks)) (steps_on ed bytes budget s (desk marks list 0)) []) []

unfoldable pub answers_along : List (ℕ × StepSaid) → List StepSaid
answers_along steps = map (λ x. x.1) steps

abbrev pub dispatch_answers : Edition → List ℕ → Lent → (marks list : List ℕ) → (budget : ℕ) → List StepSaid
dispatch_answers ed bytes s marks list budget = answers_along (dispatch_steps ed bytes s marks list budget)

-- These are the answers of the steps that a dispatch of what was lent makes. A refused one makes none and leaves all as it was.
pub record DispatchStandsAs (answers : List StepSaid) (s : Lent) (marks list : List ℕ) (o : dispatching.Outcome) : Type 0 where
  pub all_accepted : AllAccepted answers
  pub their_number : o.taken ≡ length answers
  pub refused_none :
      (n p : ℕ) → o.ending ≡ dispatching.refused n p → (answers ≡ []) × (o.after ≡ s) × (o.handed_out ≡ desk marks list 0)

-- what a call answers, step by step, and what it leaves; `run_stands` and `dispatch_stands` in proofs/Calls.antt say what these two answer
unfoldable pub call_answers : Edition → List ℕ → Lent → Call → List StepSaid
call_answers ed bytes s (a_step v) = (step ed bytes s v).answer ∷ []
call_answers ed bytes s (a_run budget) = cond (steppable s) (run_answers ed bytes budget s) []
call_answers ed bytes s (a_dispatch marks list budget) = dispatch_answers ed bytes s marks list budget

unfoldable pub call_leaves : Edition → List ℕ → Lent → Call → Lent
call_leaves ed bytes s (a_step v) = (step ed bytes s v).after
call_leaves ed bytes s (a_run budget) = (run ed bytes s budget).after
call_leaves ed bytes s (a_dispatch marks list budget) = (dispatch ed bytes s marks list budget).after

-- a list of calls, one after the other
unfoldable pub answers_of : Edition → List ℕ → Lent → List Call → List StepSaid
answers_of ed bytes s [] = []
answers_of ed bytes s (c ∷ cs) = call_answers ed bytes s c ++ answers_of ed bytes (call_leaves ed bytes s c) cs

unfoldable pub leaves_of : Edition → List ℕ → Lent → List Call → Lent
leaves_of ed bytes s [] = s
leaves_of ed bytes s (c ∷ cs) = leaves_of ed bytes (call_leaves ed bytes s c) cs
