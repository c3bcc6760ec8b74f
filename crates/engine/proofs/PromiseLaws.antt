-- The promise of a loading with a list of steps, from what the loading and each step are.
--
--     Came                        from a loading, steps of these vertices came to this
--     Onward                      the same, from what the loading left
--     onward_none, onward_more    before the first step, and one step more
--     keeps_promise               after the last step demand 3 holds, and note 7
--     refused_promise             a refused loading changes nothing
use Prim.Native.Nat.{ℕ, ◌+◌, ◌<◌, ◌≤◌}
use mathlib.Core.Path.{◌≡◌, refl, sym, ◌∙◌, ap, subst}
use mathlib.Core.Bool.{true, false}
use mathlib.Core.List.{List, [], ◌∷◌, ◌++◌, map-append}
use native.Mathlib.Numerals.{add-one}
use lib.ListN.{length, get_or, take}
use lib.Seq.{take-suc, take_all}
use Rattle.graph.specs.Tables.{Lent}
use Rattle.program.specs.declared.Edition.{Edition}
use Rattle.machine.specs.Answers.{StepSaid, LoadingSaid, is_loaded}
use Rattle.machine.specs.Loading.{load}
use Rattle.machine.specs.Reached.{Reached, begun, stepped}
use Rattle.machine.specs.Traces.{Loaded, Stepped, Trace, load_first}
use Rattle.machine.specs.Traces as trace
use Rattle.machine.specs.FairOrders.{steps_of}
use Rattle.machine.proofs.LoadLaws.{load_keeps}
use Rattle.machine.proofs.Demand3.{demand3, reached_program}
use Rattle.machine.proofs.FairOrders.{trace_in_order}
use Rattle.engine.specs.Promise.{BySteps, no_steps, then_step, Promised, not_loaded, demand_3}

-- from the loading of these bytes onto s₀, steps of these vertices, in this order, came to s
pub data Came (ed : Edition) (bytes : List ℕ) (s₀ : Lent) (named : List ℕ) (s : Lent) : Type 0 where
  came : (answers : List StepSaid) (q : Reached ed bytes s₀ answers s) → BySteps ed bytes s₀ named answers s q → Came ed bytes s₀ named s

loaded_came :
    {ed : Edition} {bytes : List ℕ} {s₀ u : Lent} {loading : LoadingSaid} → Loaded ed bytes s₀ loading u → is_loaded loading ≡ true
    → Came ed bytes s₀ [] u
loaded_came {ed} {bytes} {s₀} l h =
    let g : is_loaded (load ed bytes s₀).answer ≡ true = sym (ap is_loaded l.says) ∙ h in
    subst (λ (x : Lent). Came ed bytes s₀ [] x) (sym l.leaves) (came [] (begun g) (no_steps g))

step_came :
    {ed : Edition} {bytes : List ℕ} {s₀ s s' : Lent} {named : List ℕ} {v : ℕ} {answer : StepSaid} → Came ed bytes s₀ named s
    → Stepped ed bytes s v answer s'
    → Came ed bytes s₀ (named ++ (v ∷ [])) s'
step_came {ed} {bytes} {s₀} {named = named} {v} (came answers q b) l =
    subst (λ (x : Lent). Came ed bytes s₀ (named ++ (v ∷ [])) x) (sym l.leaves) (came _ (stepped q v) (then_step b v))

-- steps of the first i of these vertices came from u to s, whatever was loaded to leave u
pub data Onward (ed : Edition) (bytes : List ℕ) (u : Lent) (named : List ℕ) (i : ℕ) (s : Lent) : Type 0 where
  onward : ((s₀ : Lent) → Came ed bytes s₀ [] u → Came ed bytes s₀ (take i named) s) → Onward ed bytes u named i s

pub onward_none : (ed : Edition) (bytes : List ℕ) (u : Lent) (named : List ℕ) → Onward ed bytes u named 0 u
onward_none ed bytes u named = onward (λ s₀ h. h)

pub onward_more :
    {ed : Edition} {bytes : List ℕ} {u s s' : Lent} {named : List ℕ} {i : ℕ} {answer : StepSaid} → Onward ed bytes u named i s → i < length named
    → Stepped ed bytes s (get_or named i 0) answer s' → Onward ed bytes u named (i + 1) s'
onward_more {ed} {bytes} {s' = s'} {named} {i} (onward f) lt l =
    onward (λ s₀ h. rw (add-one i) (subst (λ (x : List ℕ). Came ed bytes s₀ x s') (sym (take-suc named i 0 lt)) (step_came (f s₀ h) l)))

-- all of them
onward_all :
    {ed : Edition} {bytes : List ℕ} {s₀ u s : Lent} {named : List ℕ} {i : ℕ} → Onward ed bytes u named i s → length named ≤ i → Came ed bytes s₀ [] u
    → Came ed bytes s₀ named s
onward_all {ed} {bytes} {s₀} {s = s} {named} {i} (onward f) le h =
    subst (λ (x : List ℕ). Came ed bytes s₀ x s) (take_all i named le) (f s₀ h)

-- such steps are a trace
came_trace :
    {ed : Edition} {bytes : List ℕ} {s₀ s : Lent} {named : List ℕ} {answers : List StepSaid} {q : Reached ed bytes s₀ answers s}
    → BySteps ed bytes s₀ named answers s q → Trace ed bytes s₀ (steps_of named) answers s
came_trace (no_steps h) = load_first (record { says = refl; leaves = refl }) h
came_trace {ed} {bytes} {s₀} (then_step {named} {answers} {s} b v) =
    rw map-append
    (trace.then_step v _ (came_trace b) (record { says = refl; leaves = refl }))

promised :
    {ed : Edition} {bytes : List ℕ} {s₀ s : Lent} {named : List ℕ} {loading : LoadingSaid} → loading ≡ (load ed bytes s₀).answer
    → is_loaded loading ≡ true
    → Came ed bytes s₀ named s → Promised ed bytes s₀ named loading s.steps s
promised {ed} {bytes} says h (came answers q b) =
    let (t, r) = reached_program ed bytes q in
    let d = demand3 ed bytes t r q in
    demand_3 says h t r answers q b d.tally_tells d (trace_in_order r _ (came_trace b))

-- the loading is accepted: demand 3 of the whole list
pub keeps_promise :
    {ed : Edition} {bytes : List ℕ} {s₀ u s : Lent} {named : List ℕ} {loading : LoadingSaid} {i : ℕ} → Loaded ed bytes s₀ loading u
    → is_loaded loading ≡ true → Onward ed bytes u named i s → length named ≤ i
    → Promised ed bytes s₀ named loading s.steps s
keeps_promise l h o le = promised l.says h (onward_all o le (loaded_came l h))

-- it is refused
pub refused_promise :
    {ed : Edition} {bytes : List ℕ} {s₀ u : Lent} {loading : LoadingSaid} (named : List ℕ) → Loaded ed bytes s₀ loading u
    → is_loaded loading ≡ false → Promised ed bytes s₀ named loading 0 u
refused_promise {ed} {bytes} {s₀} named l h = not_loaded l.says h refl (l.leaves ∙ load_keeps ed bytes s₀ (sym (ap is_loaded l.says) ∙ h))
