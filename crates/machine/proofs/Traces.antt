-- Demand 3 of every list of calls, runs and dispatches among them and the empty one too, and of every trace of an engine, which is the plain machine's.
use Prim.Native.Nat.{ℕ}
use mathlib.Core.Path.{◌≡◌, refl, sym, ◌∙◌, ap, subst}
use mathlib.Core.Bool.{true}
use mathlib.Core.List.{List, [], ◌∷◌, ◌++◌}
use Rattle.graph.specs.Tables.{Lent}
use Rattle.program.specs.declared.Edition.{Edition}
use Rattle.program.specs.Trees.{Body}
use Rattle.program.specs.Reader.{reading, program}
use Rattle.machine.specs.Answers.{StepSaid, is_loaded}
use Rattle.machine.specs.Loading.{load}
use Rattle.machine.specs.Stepping.{step}
use Rattle.machine.specs.Reached.{Reached, begun, stepped, Call, a_step, a_run, a_dispatch, dispatch_answers, call_answers, call_leaves}
use Rattle.machine.specs.Reached.{answers_of, leaves_of}
use Rattle.machine.specs.Demand3.{Demand3}
use Rattle.machine.specs.Traces.{Trace, load_first, then_step, then_run, then_dispatch}
use Rattle.machine.proofs.Demand3.{demand3, reached_program}
use Rattle.machine.proofs.Calls.{answers_snoc, leaves_snoc, run_reached, dispatch_reached, calls_reached}

-- its loading was accepted
pub trace_loaded :
    {ed : Edition} {bytes : List ℕ} {s₀ : Lent} {cs : List Call} {answers : List StepSaid} {s : Lent} → Trace ed bytes s₀ cs answers s
    → is_loaded (load ed bytes s₀).answer ≡ true
trace_loaded (load_first l h) = sym (ap is_loaded l.says) ∙ h
trace_loaded (then_step v answer tr l) = trace_loaded tr
trace_loaded (then_run budget ending last taken tr l) = trace_loaded tr
trace_loaded (then_dispatch marks list budget ending taken marks' list' handed tr l) = trace_loaded tr

-- what a list of calls answers and leaves, and one call more
one_more :
    (ed : Edition) (bytes : List ℕ) (s : Lent) (cs : List Call) (c : Call) {answers more : List StepSaid} {u u' : Lent}
    → answers ≡ answers_of ed bytes s cs → u ≡ leaves_of ed bytes s cs → more ≡ call_answers ed bytes u c → u' ≡ call_leaves ed bytes u c
    → (answers ++ more ≡ answers_of ed bytes s (cs ++ (c ∷ []))) × (u' ≡ leaves_of ed bytes s (cs ++ (c ∷ [])))
one_more ed bytes s cs c e f m l =
    (rw (e, m, f) (sym (answers_snoc ed bytes s cs c)), l ∙ rw f (sym (leaves_snoc ed bytes s cs c)))

-- Whatever an engine answers and leaves in a trace is reached by the plain machine.
pub trace_reached :
    {ed : Edition} {bytes : List ℕ} {s₀ : Lent} {cs : List Call} {answers : List StepSaid} {s : Lent} → Trace ed bytes s₀ cs answers s
    → Reached ed bytes s₀ answers s
unfolding call_answers
trace_reached {ed} {bytes} {s₀} (load_first l h) =
    subst (λ (s : Lent). Reached ed bytes s₀ [] s) (sym l.leaves) (begun (trace_loaded (load_first l h)))
trace_reached {ed} {bytes} {s₀} (then_step {answers = answers} {s} {s'} v answer tr l) =
    subst (λ (x : Lent). Reached ed bytes s₀ (answers ++ (answer ∷ [])) x) (sym l.leaves)
    (subst (λ (a : StepSaid). Reached ed bytes s₀ (answers ++ (a ∷ [])) (step ed bytes s v).after) (sym l.says)
    (stepped (trace_reached tr) v))
trace_reached {ed} {bytes} {s₀} (then_run {answers = answers} {s} {s'} budget ending last taken tr l) =
    subst (λ (x : Lent). Reached ed bytes s₀ (answers ++ call_answers ed bytes s (a_run budget)) x) (sym l.leaves)
    (run_reached ed bytes s₀ s budget (trace_reached tr))
trace_reached {ed} {bytes} {s₀} (then_dispatch {answers = answers} {s} marks list budget ending taken marks' list' handed tr l) =
    subst (λ (x : Lent). Reached ed bytes s₀ (answers ++ dispatch_answers ed bytes s marks list budget) x) (sym l.leaves)
    (dispatch_reached ed bytes s₀ s marks list budget (trace_reached tr))

-- Its answers are those of its calls, and so is what it leaves.
pub trace_answers :
    {ed : Edition} {bytes : List ℕ} {s₀ : Lent} {cs : List Call} {answers : List StepSaid} {s : Lent} → Trace ed bytes s₀ cs answers s
    → (answers ≡ answers_of ed bytes (load ed bytes s₀).after cs) × (s ≡ leaves_of ed bytes (load ed bytes s₀).after cs)
unfolding answers_of leaves_of call_answers call_leaves
trace_answers (load_first l h) = (refl, l.leaves)
trace_answers {ed} {bytes} {s₀} (then_step {cs} {answers} {s} v answer tr l) =
    let (e, f) = trace_answers tr in
    one_more ed bytes (load ed bytes s₀).after cs (a_step v) e f (ap (λ (a : StepSaid). a ∷ []) l.says) l.leaves
trace_answers {ed} {bytes} {s₀} (then_run {cs} {answers} {s} budget ending last taken tr l) =
    let (e, f) = trace_answers tr in
    one_more ed bytes (load ed bytes s₀).after cs (a_run budget) e f refl l.leaves
trace_answers {ed} {bytes} {s₀} (then_dispatch {cs} {answers} {s} marks list budget ending taken marks' list' handed tr l) =
    let (e, f) = trace_answers tr in
    one_more ed bytes (load ed bytes s₀).after cs (a_dispatch marks list budget) e f refl l.leaves

-- Demand 3 of every trace.
pub trace_demand3 :
    {ed : Edition} {bytes : List ℕ} {s₀ : Lent} {cs : List Call} {answers : List StepSaid} {s : Lent} (tr : Trace ed bytes s₀ cs answers s)
    → (t : Body) × (reading ed bytes ≡ program t) × Demand3 ed bytes t (trace_reached tr)
trace_demand3 {ed} {bytes} tr =
    let (t, r) = reached_program ed bytes (trace_reached tr) in
    (t, r, demand3 ed bytes t r (trace_reached tr))

-- Demand 3 of every list of calls from an accepted loading.
pub list_demand3 :
    (ed : Edition) (bytes : List ℕ) (s₀ : Lent) (h : is_loaded (load ed bytes s₀).answer ≡ true) (cs : List Call)
    → (t : Body) × (reading ed bytes ≡ program t) × Demand3 ed bytes t (calls_reached ed bytes s₀ cs (load ed bytes s₀).after (begun h))
list_demand3 ed bytes s₀ h cs =
    let q = calls_reached ed bytes s₀ cs (load ed bytes s₀).after (begun h) in
    let (t, r) = reached_program ed bytes q in
    (t, r, demand3 ed bytes t r q)
