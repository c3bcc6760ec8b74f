-- Cycles. An edge from s to t closes one exactly if t is s or leads to s. Moving the edges out of t to t', which had none, closes one
-- exactly if t leads to t'. On sets of edges without a cycle; and the two tests of the tables for that are one.
use Prim.Native.Nat.{ℕ}
use mathlib.Core.Path.{◌≡◌, refl, sym, ◌∙◌, ap, subst}
use mathlib.Core.Logic.{◌⊎◌, inl, inr, ⊎_elim}
use mathlib.Core.Bool.{Bool, true, cond}
use mathlib.Core.List.{List}
use lib.Dec.{eqb}
use borrow.Author.Tests.{eq-eqb, ne_eqb, eqb-true}
use Rattle.graph.specs.Tables.{target}
use Rattle.graph.specs.Paths.{Leads, one, more, CycleFree, holds, reaches}
use Rattle.graph.specs.Commands.{target_reaches}
use Rattle.graph.proofs.TestLaws.{same, equal?, any_found, any_at, both_true, both_left, both_right, either_left, either_right, either_cases}
use Rattle.graph.proofs.PathLaws.{Stays, join, wider, go_on, cut, held_row, path_reaches, reaches_path}
use Rattle.graph.proofs.EdgeLaws.{row_holds, Is, OneMore, Moved}

-- fewer edges close no cycle
pub fewer_free : {E F : ℕ → ℕ → Bool} → ((a b : ℕ) → F a b ≡ true → E a b ≡ true) → CycleFree E → CycleFree F
fewer_free h free x p = free x (wider h p)

-- one edge more, from s to t
meet : {E : ℕ → ℕ → Bool} {a b c : ℕ} → Stays E a b → Stays E b c → Stays E a c
meet {E} {c = c} (inl p) q = subst (λ (x : ℕ). Stays E x c) (sym p) q
meet {E} {a} (inr p) (inl q) = inr (subst (λ (x : ℕ). Leads E a x) q p)
meet (inr p) (inr q) = inr (join p q)

pub one_more_free : {E F : ℕ → ℕ → Bool} {s t : ℕ} → Is F (OneMore E s t) → CycleFree E → (Stays E t s → ⊥) → CycleFree F
one_more_free h free none x p =
    ⊎_elim (λ q. free x q) (λ q. none (meet q.1 q.0)) (cut (λ a b. (h a b).0) p)

pub one_more_cycle : {E F : ℕ → ℕ → Bool} {s t : ℕ} → Is F (OneMore E s t) → CycleFree F → Stays E t s → ⊥
one_more_cycle {E} {F} {s} {t} h free p =
    free s (go_on ((h s t).1 (inr (refl, refl))) (⊎_elim (λ q. inl q) (λ q. inr (wider (λ a b r. (h a b).1 (inl r)) q)) p))

-- The vertex that an edge out of x left before the edges out of t were moved to t'.
before : ℕ → ℕ → ℕ → ℕ
before t t' x = cond (eqb x t') t x

before_same : (t t' x : ℕ) → x ≡ t' → before t t' x ≡ t
unfolding before
before_same t t' x q = ap (λ (b : Bool). cond b t x) (eq-eqb x t' q)

before_other : (t t' x : ℕ) → (x ≡ t' → ⊥) → before t t' x ≡ x
unfolding before
before_other t t' x ne = ap (λ (b : Bool). cond b t x) (ne_eqb x t' ne)

-- the edges out of t moved to t'
module _ {E F : ℕ → ℕ → Bool} {t t' : ℕ} (h : Is F (Moved E t t')) where
  -- an edge stays, or leaves t' now
  edge_after : (a b : ℕ) → E a b ≡ true → (F a b ≡ true) ⊎ (F t' b ≡ true)
  edge_after a b e =
      ⊎_elim
      (λ q. inr ((h t' b).1 (inr (refl, subst (λ (x : ℕ). E x b ≡ true) q e))))
      (λ ne. inl ((h a b).1 (inl (e, ne))))
      (equal? a t)

  -- so a path stays, or there is one from t' to where it led
  path_after : {y z : ℕ} → Leads E y z → Leads F y z ⊎ Leads F t' z
  path_after (one {a = a} {b = b} e) = ⊎_elim (λ q. inl (one q)) (λ q. inr (one q)) (edge_after a b e)
  path_after (more {a = a} {b = b} e p) =
      ⊎_elim (λ r. ⊎_elim (λ q. inl (more q r)) (λ q. inr (more q r)) (edge_after a b e)) (λ r. inr r) (path_after p)

  no_edge_left : (t ≡ t' → ⊥) → (b : ℕ) → F t b ≡ true → ⊥
  no_edge_left ne b e = ⊎_elim (λ q. q.1 refl) (λ q. ne q.0) ((h t b).0 e)

  no_path_left : (t ≡ t' → ⊥) → {x y : ℕ} → x ≡ t → Leads F x y → ⊥
  no_path_left ne q (one {a = a} {b = b} e) = no_edge_left ne b (subst (λ (x : ℕ). F x b ≡ true) q e)
  no_path_left ne q (more {a = a} {b = b} e p) = no_edge_left ne b (subst (λ (x : ℕ). F x b ≡ true) q e)

  pub moved_cycle : (t ≡ t' → ⊥) → CycleFree F → Leads E t t' → ⊥
  moved_cycle ne free p = ⊎_elim (λ q. no_path_left ne refl q) (λ q. free t' q) (path_after p)

  -- where t' had no edge out
  module _ (none : (b : ℕ) → E t' b ≡ true → ⊥) where
    edge_before : (a b : ℕ) → F a b ≡ true → E (before t t' a) b ≡ true
    edge_before a b e =
        ⊎_elim
        (λ q. rw (before_other t t' a (λ z. none b (subst (λ (x : ℕ). E x b ≡ true) z q.0))) q.0)
        (λ q. rw (before_same t t' a q.0) q.1)
        ((h a b).0 e)

    -- a path was there, or it came to t' and went on from t
    path_before : {x y : ℕ} → Leads F x y → Leads E (before t t' x) y ⊎ (Leads E (before t t' x) t' × Leads E t y)
    path_before (one {a = a} {b = b} e) = inl (one (edge_before a b e))
    path_before (more {a = a} {b = b} {c = c} e p) =
        let d = edge_before a b e in
        let ih = path_before p in
        ⊎_elim
        (λ q.
        let came : Leads E (before t t' a) t' = one (subst (λ (x : ℕ). E (before t t' a) x ≡ true) q d) in
        ⊎_elim (λ r. inr (came, rw (before_same t t' b q) at r)) (λ r. inr (came, r.1)) ih)
        (λ ne.
        let z = before_other t t' b ne in
        ⊎_elim (λ r. inl (more d (rw z at r))) (λ r. inr (more d (rw z at r.0), r.1)) ih)
        (equal? b t')

    pub moved_free : CycleFree E → (Leads E t t' → ⊥) → CycleFree F
    moved_free free apart x p =
        ⊎_elim
        (λ q.
        let z = before_same t t' x q in
        ⊎_elim
        (λ r. apart (subst (λ (y : ℕ). Leads E t y) q (rw z at r)))
        (λ r. apart (rw z at r.0))
        (path_before p))
        (λ ne.
        let z = before_other t t' x ne in
        ⊎_elim (λ r. free x (rw z at r)) (λ r. apart (join r.1 (rw z at r.0))) (path_before p))
        (equal? x t')

-- The two tests are one: a path from t to t' begins with an edge out of t.
first_edge : {E : ℕ → ℕ → Bool} {a b : ℕ} → Leads E a b → (m : ℕ) × (E a m ≡ true) × Stays E m b
first_edge (one {b = b} e) = (b, e, inl refl)
first_edge (more {b = b} e p) = (b, e, inr p)

pub target_reaches_lem : (e : List ℕ) (n t t' : ℕ) → target_reaches e n t t' ≡ reaches e n t t'
unfolding target_reaches
target_reaches_lem e n t t' =
    same _ (reaches e n t t')
    (λ h.
    let (i, lt, p) = any_found _ n h in
    path_reaches e n t t'
    (go_on (row_holds e n t (target e i) i lt (eqb-true _ _ (both_left _ _ p)) refl)
    (⊎_elim
    (λ q. inl (eqb-true _ _ q))
    (λ q. inr (reaches_path e n (target e i) t' q))
    (either_cases _ _ (both_right _ _ p)))))
    (λ h.
    let (m, edge, rest) = first_edge (reaches_path e n t t' h) in
    let (i, lt, p, q) = held_row e n t m edge in
    any_at _ n i lt
    (both_true (eq-eqb _ _ p)
    (⊎_elim
    (λ r. either_left _ (eq-eqb _ _ (q ∙ r)))
    (λ r. either_right _ (path_reaches e n (target e i) t' (subst (λ (x : ℕ). Leads (holds e n) x t') (sym q) r)))
    rest)))
