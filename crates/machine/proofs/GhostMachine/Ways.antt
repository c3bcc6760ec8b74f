-- Ways by settled edges: from a vertex that is bound, that has an item or plans an edge to its scope, one leads to its scope. So nothing
-- settled leads to a released vertex that no held edge leads to (`blocked`), and no way passes a vertex that executes.
use Prim.Native.Nat.{ℕ}
use mathlib.Core.Path.{◌≡◌, refl, sym, ◌∙◌, ap, subst}
use mathlib.Core.Bool.{false}
use mathlib.Core.Logic.{◌⊎◌, inl, inr, ⊎_elim}
use Rattle.graph.proofs.TestLaws.{true-false}
use Rattle.program.specs.Located.{Code}
use Rattle.machine.proofs.GhostMachine.Ghost.{link, free, draft, ready, State}
use Rattle.machine.proofs.GhostMachine.Invariant.{In, tasks, tasks_of, code_of, waits, is_draft, Settled, held, given, planned, Way, one}
use Rattle.machine.proofs.GhostMachine.Invariant.{more, Shape, HasItem, Roads}
use Rattle.machine.proofs.GhostMachine.GhostLaws.{clash, draft_new, in_empty}
use Rattle.machine.proofs.GhostMachine.ShapeStep.{joined_old}
use Rattle.machine.proofs.GhostMachine.SettledLaws.{source_idle}

-- one way behind another
pub way_join : {R : ℕ → ℕ → Type 0} {a b c : ℕ} → Way R a b → Way R b c → Way R a c
way_join (one r) w = more r w
way_join (more r w) w' = more r (way_join w w')

-- a way by edges that are still there
pub way_map : {R R' : ℕ → ℕ → Type 0} {a b : ℕ} → ((x y : ℕ) → R x y → R' x y) → Way R a b → Way R' a b
way_map f (one r) = one (f _ _ r)
way_map f (more r w) = more (f _ _ r) (way_map f w)

-- and where those out of v may be gone, but none leads to v
pub way_past :
    {R R' : ℕ → ℕ → Type 0} {a b : ℕ} (v : ℕ) → ((x y : ℕ) → (x ≡ v → ⊥) → R x y → R' x y) → ((x : ℕ) → R x v → ⊥) → (a ≡ v → ⊥)
    → Way R a b → Way R' a b
way_past v f n m (one r) = one (f _ _ m r)
way_past {R} {a = a} v f n m (more r w) = more (f _ _ m r) (way_past v f n (λ e. n a (subst (λ (z : ℕ). R a z) e r)) w)

-- the last edge of a way: it is the first too, or another leads to its source
pub way_last : {R : ℕ → ℕ → Type 0} {a b : ℕ} → Way R a b → (x : ℕ) × R x b × ((x ≡ a) ⊎ ((y : ℕ) × R y x))
way_last {a = a} (one r) = (a, r, inl refl)
way_last {R} {a = a} (more r w) =
    let (x, s, from) = way_last w in
    (x, s, inr (⊎_elim (λ e. (a, subst (λ (z : ℕ). R a z) (sym e) r)) (λ y. y) from))

-- No settled edge leads to a released vertex that no held edge leads to. One that is still to be made leads to a new vertex, as the one from
-- an open future does; or to its maker, which executes; or to the scope of its maker: then the maker's own way leads there, and ends with a
-- held edge.
pub blocked :
    {S : State} → Shape S → Roads S → (v : ℕ) (c : Code) → S.control v ≡ ready c → ((u : ℕ) → S.edge u v ≡ false)
    → (a : ℕ) → Settled S a v → ⊥
unfolding tasks
blocked {S} sh rs v c q f a (held e n) = true-false e (f a)
blocked {S} sh rs v c q f a (given t i e) = true-false e (f t)
blocked {S} sh rs v c q f a (planned t i l) =
    ⊎_elim
    (λ j. released t j)
    (λ to.
    ⊎_elim
    (λ e. own (subst (λ (z : ℕ). Way (Settled S) t z) (sym e) (rs.plan t a (subst (λ (z : ℕ). In (link a z) (tasks_of S t)) e i))))
    (λ e. in_empty (ap tasks (ap S.control (sym e.0) ∙ q)) i)
    to)
    ((sh.todo_fits t).link_to a v i)
  where
    released : (u : ℕ) → In (free v) (tasks_of S u) → ⊥
    released u j = let (d, p) = ((sh.todo_fits u).frees v j).0 in clash cc

    last : {x : ℕ} → Settled S x v → ((x ≡ t) ⊎ ((y : ℕ) × Settled S y x)) → ⊥
    last {x} (held e n) from = true-false e (f x)
    last (given u j e) from = true-false e (f u)
    last {x} (planned u j k) from =
        ⊎_elim
        (λ e. in_empty (ap (tasks_of S) (sym e) ∙ source_idle u sh j) i)
        (λ y. ⊎_elim (λ m. rs.bare u x v y.0 j m y.1) (λ m. released u m.frees_it) ((sh.todo_fits u).link_from x v j))
        from

    own : Way (Settled S) t v → ⊥
    own w = let (x, s, from) = way_last w in last s from

-- a vertex that is bound to its scope: it has an item, and its maker's item is split; or its own item plans an edge to its scope
pub data Bound (S : State) (u : ℕ) : Type 0 where
  at_item : (c : Code) → HasItem S u c → is_draft (S.control u) ≡ false → Bound S u
  at_link : (a : ℕ) → In (link a (S.scope u)) (tasks_of S u) → Bound S u

-- so a way leads there
pub bound_way : {S : State} {u : ℕ} → Roads S → Bound S u → Way (Settled S) u (S.scope u)
bound_way {u = u} rs (at_item c h d) = rs.way u c h d
bound_way {u = u} rs (at_link a i) = rs.plan u a i

-- a vertex that is bound was bound, if it had the same scope, an item if it has one, and what it has to do
pub bound_back :
    {S S' : State} {u : ℕ} → ((c : Code) → HasItem S' u c → is_draft (S'.control u) ≡ false → Bound S u) → S'.scope u ≡ S.scope u
    → ((a b : ℕ) → In (link a b) (tasks_of S' u) → In (link a b) (tasks_of S u)) → Bound S' u → Bound S u
bound_back f e g (at_item c h d) = f c h d
bound_back {S} {S'} {u} f e g (at_link a i) =
    at_link a (subst (λ (z : ℕ). In (link a z) (tasks_of S u)) e (g a (S'.scope u) i))

-- the same at the same control
pub bound_same : {S S' : State} {u : ℕ} → S'.control u ≡ S.control u → S'.scope u ≡ S.scope u → Bound S' u → Bound S u
bound_same e p =
    bound_back (λ c h d. at_item c (sym (ap code_of e) ∙ h.0, h.1) (sym (ap is_draft e) ∙ d)) p
    (λ a b i. subst (λ x. In (link a b) (tasks x)) e i)

-- nothing settled leads to a vertex that does not wait
pub nothing_to : {S : State} {v : ℕ} → Roads S → waits (S.control v) ≡ false → (x : ℕ) → Settled S x v → ⊥
nothing_to {v = v} rs w x s = true-false (rs.into x v s) w

-- nothing settled leads to a vertex of an item that is not split
pub nothing_to_draft : {S : State} {m : ℕ} {k : Code} → Shape S → S.control m ≡ draft k → (x : ℕ) → Settled S x m → ⊥
nothing_to_draft {m = m} {k = k} sh q x (held e n) = true-false e (sh.draft_bare m x k q).0
nothing_to_draft {m = m} {k = k} sh q x (given t i e) = true-false e (sh.draft_bare m t k q).0
nothing_to_draft {S} {m} {k} sh q x (planned t i l) =
    ⊎_elim
    (λ j. let (c, p) = ((sh.todo_fits t).frees m j).0 in clash cc)
    (λ to. true-false (draft_new q) (joined_old sh t m i to))
    ((sh.todo_fits t).link_to x m i)
