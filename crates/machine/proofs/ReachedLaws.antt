-- More that holds of whatever is reached from a loading: the rows that loading asked for are enough, an executing vertex can always step, and
-- an edge that a step says was not held before.
use Prim.Native.Nat.{ℕ, ◌<◌, ◌≤◌}
use mathlib.Core.Path.{◌≡◌, refl, sym, ◌∙◌, ap, ap₂, subst}
use mathlib.Core.Bool.{true, false}
use mathlib.Core.List.{List}
use native.Mathlib.Omega.{arith}
use Rattle.graph.specs.Tables.{Lent, EXECUTING, status}
use Rattle.graph.specs.Answers.{Outcome}
use Rattle.graph.specs.Demand2.{EdgeHeld}
use Rattle.graph.proofs.TestLaws.{true-false}
use Rattle.graph.proofs.EdgeLaws.{held_decides}
use Rattle.program.specs.Trees.{Body, counts}
use Rattle.program.specs.declared.Edition.{Edition}
use Rattle.program.specs.Encodings.{vertex_formula, edge_row_formula}
use Rattle.program.specs.Reader.{reading, program}
use Rattle.program.specs.Located.{located}
use Rattle.program.proofs.Formulas.{vertices_formula, edge_rows_formula}
use Rattle.machine.specs.Answers.{StepSaid}
use Rattle.machine.specs.Stepping.{step}
use Rattle.machine.specs.Running.{can_step}
use Rattle.machine.specs.Reached.{Reached}
use Rattle.machine.proofs.GhostMachine.Ghost.{Event, Control, draft, fresh, ready, busy, joining, over, State}
use Rattle.machine.proofs.GhostMachine.GhostLaws.{clash}
use Rattle.machine.proofs.Counting.CountLaws.{vertices_bound, edges_bound}
use Rattle.machine.proofs.GhostMachine.Progress.{Free, at_code, at_work}
use Rattle.machine.proofs.TablesFollow.Follows.{setting_of, Answers, says_start, says_new, says_edge, says_release, says_transfer}
use Rattle.machine.proofs.TablesFollow.Follows.{says_job, says_stop, says_yield, Followed, refused, moved}
use Rattle.machine.proofs.TablesFollow.FollowLaws.{status_of, follows_status}
use Rattle.machine.proofs.TablesFollow.Tracked.{Tracked, stepped_as, rows_lent, tracked}
use Rattle.machine.proofs.Demand3.{free_steps}

-- At most V vertices are made, and at most the edge rows needed are held.
pub rows_suffice :
    (ed : Edition) (bytes : List ℕ) (t : Body) {s₀ : Lent} {answers : List StepSaid} {s : Lent} → reading ed bytes ≡ program t
    → Reached ed bytes s₀ answers s → (s.made ≤ vertex_formula ed (counts t)) × (s.held ≤ edge_row_formula (counts t))
rows_suffice ed bytes t r q =
    let T = tracked ed bytes t r q in (
      omega (arith, T.follows.made_is, vertices_bound t (setting_of ed bytes) T.runs, vertices_formula ed t),
      omega (arith, T.held_le, edges_bound t (setting_of ed bytes) T.runs, edge_rows_formula ed t),
    )

-- a vertex with the status of one that executes can move on
status_free : {S : State} {v : ℕ} (x : Control) → S.control v ≡ x → status_of x ≡ EXECUTING → Free S v
unfolding status_of
status_free (draft c) e h = absurd (let z : ◌≡◌ {A = ℕ} 1 3 = h in omega arith)
status_free (fresh c) e h = absurd (let z : ◌≡◌ {A = ℕ} 1 3 = h in omega arith)
status_free (ready c) e h = absurd (let z : ◌≡◌ {A = ℕ} 2 3 = h in omega arith)
status_free (busy c ms) e h = at_code e
status_free (joining c d ds) e h = at_work e
status_free over e h = absurd (let z : ◌≡◌ {A = ℕ} 4 3 = h in omega arith)

-- No step of an executing vertex is refused.
pub executing_steps :
    (ed : Edition) (bytes : List ℕ) (t : Body) {s₀ : Lent} {answers : List StepSaid} {s : Lent} → reading ed bytes ≡ program t
    → (q : Reached ed bytes s₀ answers s) → (v : ℕ) → v < s.made → status s.vertices v ≡ EXECUTING → can_step ed bytes s v ≡ true
executing_steps ed bytes t {s = s} r q v lt h =
    let T = tracked ed bytes t r q in
    let l : v < T.state.count = subst (λ (n : ℕ). v < n) T.follows.made_is lt in
    free_steps ed bytes t r q v (status_free (T.state.control v) refl (sym (follows_status s T.state v T.follows l) ∙ h))

-- "A loaded program never meets this case" (note 3): an edge that a step says was not held already.
pub edge_is_new :
    (ed : Edition) (bytes : List ℕ) (t : Body) {s₀ : Lent} {answers : List StepSaid} {s : Lent} → reading ed bytes ≡ program t
    → Reached ed bytes s₀ answers s → (v a b : ℕ) → (step ed bytes s v).answer ≡ StepSaid.edge a b → EdgeHeld s a b → ⊥
edge_is_new ed bytes t {s₀} {answers} {s} r q v a b h held =
    true-false (sym (T.follows.edges_are a b) ∙ (held_decides s a b).1 held)
    (of_step (step ed bytes s v) (stepped_as ed bytes t s₀ r (rows_lent ed bytes t r q) T v) h)
  where
    T : Tracked ed bytes t s₀ answers s
    T = tracked ed bytes t r q

    of_answer : {e : Event} {said : StepSaid} → Answers T.state v e said → said ≡ StepSaid.edge a b → T.state.edge a b ≡ false
    of_answer says_start z = clash cc
    of_answer says_new z = clash cc
    of_answer (says_edge x y new) z =
        let p : x ≡ a = cc in
        let p' : y ≡ b = cc in
        sym (ap₂ T.state.edge p p') ∙ new
    of_answer (says_release m) z = clash cc
    of_answer (says_transfer m) z = clash cc
    of_answer (says_job c) z = clash cc
    of_answer says_stop z = clash cc
    of_answer says_yield z = clash cc

    of_step :
        (o : Outcome StepSaid) → Followed (located t) (setting_of ed bytes) s T.state v o → o.answer ≡ StepSaid.edge a b
        → T.state.edge a b ≡ false
    of_step o (refused n w e) z = let y = sym (ap (λ (x : Outcome StepSaid). x.answer) e) ∙ z in clash cc
    of_step o (moved e S' m f says tally) z = of_answer says z
