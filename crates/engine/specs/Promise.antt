-- Demand 3, and with it note 7, as the promise of a function that loads a program and takes a list of vertices as steps, all of one edition.
use Rattle.std.specs.Prelude.{ℕ, ◌≡◌, true, false, List, [], ◌∷◌, ◌++◌}
use Rattle.graph.specs.Tables.{Lent}
use Rattle.program.specs.declared.Edition.{Edition}
use Rattle.program.specs.Trees.{Body}
use Rattle.program.specs.Reader.{program, reading}
use Rattle.machine.specs.Answers.{StepSaid, LoadingSaid, is_loaded}
use Rattle.machine.specs.Loading.{load}
use Rattle.machine.specs.Stepping.{step}
use Rattle.machine.specs.Reached.{Reached, begun, stepped}
use Rattle.machine.specs.Demand3.{accepted_in, Demand3}
use Rattle.machine.specs.FairOrders.{InFairOrder}

-- what was reached, was reached by steps of these vertices, in this order
pub data BySteps (ed : Edition) (bytes : List ℕ) (s₀ : Lent)
    : List ℕ → (answers : List StepSaid) → (s : Lent) → Reached ed bytes s₀ answers s → Type 0
  where
    no_steps : (h : is_loaded (load ed bytes s₀).answer ≡ true) → BySteps ed bytes s₀ [] [] (load ed bytes s₀).after (begun h)
    then_step :
        {named : List ℕ} {answers : List StepSaid} {s : Lent} {q : Reached ed bytes s₀ answers s} → BySteps ed bytes s₀ named answers s q → (v : ℕ)
        → BySteps ed bytes s₀ (named ++ (v ∷ [])) (answers ++ ((step ed bytes s v).answer ∷ [])) (step ed bytes s v).after (stepped q v)

-- A loading that is refused changes nothing. After one that is accepted, demand 3 holds of the list; so many of its steps were accepted. At the
-- full count the jobs were answered in a fair order, and by a fair order's schedule in that order.
pub data Promised (ed : Edition) (bytes : List ℕ) (s₀ : Lent) (named : List ℕ) (loading : LoadingSaid) (count : ℕ) (after : Lent) : Type 0 where
  not_loaded :
      loading ≡ (load ed bytes s₀).answer → is_loaded loading ≡ false → count ≡ 0 → after ≡ s₀ → Promised ed bytes s₀ named loading count after
  demand_3 :
      loading ≡ (load ed bytes s₀).answer → is_loaded loading ≡ true → (t : Body) → reading ed bytes ≡ program t → (answers : List StepSaid)
      → (q : Reached ed bytes s₀ answers after) → BySteps ed bytes s₀ named answers after q → count ≡ accepted_in answers → Demand3 ed bytes t q
      → InFairOrder ed bytes t s₀ named answers → Promised ed bytes s₀ named loading count after
