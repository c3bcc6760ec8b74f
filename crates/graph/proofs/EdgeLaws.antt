-- The set of the held edges after an update of the edge table, and when no edge is held twice. A set is told by its members:
-- `Is E P` says that E has exactly the edges of P, and two sets that are told alike are the same.
use Prim.Native.Nat.{ℕ, zero, suc, ◌+◌, ◌<◌, ◌≤◌}
use mathlib.Core.Path.{◌≡◌, refl, sym, ◌∙◌, ap, subst}
use mathlib.Core.Logic.{◌⊎◌, inl, inr, ⊎_elim, ◌↔◌}
use mathlib.Core.Bool.{Bool, true, false}
use mathlib.Core.List.{List}
use native.Mathlib.Omega.{arith}
use native.Mathlib.Numerals.{add-one}
use borrow.Author.Tests.{eq-eqb, ne_eqb}
use Rattle.graph.specs.Tables.{Lent, edge_words, source_word, target_word, edge_rows, edge_word, source, target}
use Rattle.graph.specs.Paths.{holds, leads_into, leads_out_of, edges_into}
use Rattle.graph.specs.Commands.{appended, moved, kept_rows, kept, without_edges_of}
use Rattle.graph.specs.Demand2.{EdgeHeld, NoneTwice}
use Rattle.graph.proofs.TestLaws.{true-false, not_so, same, equal?, below_suc, any_at, any_none, how_many_none}
use Rattle.graph.proofs.PathLaws.{holds_at, held_row, holds_less, holds_more}
use Rattle.graph.proofs.TableLaws.{kept_rows_le, appended_other, appended-source, appended-target, moved_from, moved_rest}
use Rattle.graph.proofs.TableLaws.{moved-target, kept_rows_drop, kept_rows_keep, kept_front, kept-source, kept_target, without_kept}

-- E has exactly the edges of P
abbrev pub Is : (ℕ → ℕ → Bool) → (ℕ → ℕ → Type 0) → Type 0
Is E P = (a b : ℕ) → (E a b ≡ true) ↔ P a b

pub is_same : {E F : ℕ → ℕ → Bool} {P : ℕ → ℕ → Type 0} → Is E P → Is F P → (a b : ℕ) → E a b ≡ F a b
is_same {E} {F} p q a b = same (E a b) (F a b) (λ h. (q a b).1 ((p a b).0 h)) (λ h. (p a b).1 ((q a b).0 h))

-- the edges of E and the one from t1 to t2
abbrev pub OneMore : (ℕ → ℕ → Bool) → ℕ → ℕ → ℕ → ℕ → Type 0
OneMore E t1 t2 a b = (E a b ≡ true) ⊎ ((a ≡ t1) × (b ≡ t2))

-- the edges of E that do not leave t
abbrev pub NotFrom : (ℕ → ℕ → Bool) → ℕ → ℕ → ℕ → Type 0
NotFrom E t a b = (E a b ≡ true) × (a ≡ t → ⊥)

-- the edges of E, those out of t out of t' instead
abbrev pub Moved : (ℕ → ℕ → Bool) → ℕ → ℕ → ℕ → ℕ → Type 0
Moved E t t' a b = NotFrom E t a b ⊎ ((a ≡ t') × (E t b ≡ true))

pub row_holds : (e : List ℕ) (n a b i : ℕ) → i < n → source e i ≡ a → target e i ≡ b → holds e n a b ≡ true
row_holds e n a b i lt p q = subst (λ (x : ℕ). holds e n x b ≡ true) p (subst (λ (y : ℕ). holds e n (source e i) y ≡ true) q (holds_at e n i lt))

pub held_decides : (s : Lent) (a b : ℕ) → (holds s.edges s.held a b ≡ true) ↔ EdgeHeld s a b
held_decides s a b = (
  λ h. let (i, lt, p, q) = held_row s.edges s.held a b h in (i, lt, (p, q)),
  λ h. row_holds s.edges s.held a b h.0 h.1 h.2.0 h.2.1,
)

-- the tests for an edge into t, and out of t
pub none_into : (e : List ℕ) (n t : ℕ) → (leads_into e n t ≡ false) ↔ ((a : ℕ) → holds e n a t ≡ false)
unfolding leads_into
none_into e n t = (
  λ h a. not_so _ (λ p. let (i, lt, q, r) = held_row e n a t p in true-false (any_at _ n i lt (eq-eqb _ _ r)) h),
  λ h. any_none _ n (λ i lt. ne_eqb _ _ (λ r. true-false (row_holds e n (source e i) t i lt refl r) (h (source e i)))),
)

pub none_out_of : (e : List ℕ) (n t : ℕ) → (leads_out_of e n t ≡ false) ↔ ((b : ℕ) → holds e n t b ≡ false)
unfolding leads_out_of
none_out_of e n t = (
  λ h b. not_so _ (λ p. let (i, lt, q, r) = held_row e n t b p in true-false (any_at _ n i lt (eq-eqb _ _ q)) h),
  λ h. any_none _ n (λ i lt. ne_eqb _ _ (λ q. true-false (row_holds e n t (target e i) i lt q refl) (h (target e i)))),
)

-- no edge leads into t exactly if their number is 0
pub into_counted : (e : List ℕ) (n t : ℕ) → (edges_into e n t ≡ 0) ↔ (leads_into e n t ≡ false)
unfolding edges_into leads_into
into_counted e n t = how_many_none _ n

-- the first n rows of e' are those of e
abbrev pub SameRows : List ℕ → List ℕ → ℕ → Type 0
SameRows e e' n = (i w : ℕ) → w < edge_words → i < n → edge_word e' i w ≡ edge_word e i w

pub same_holds : (e e' : List ℕ) (n : ℕ) → SameRows e e' n → (a b : ℕ) → holds e' n a b ≡ holds e n a b
same_holds e e' n s a b =
    same (holds e' n a b) (holds e n a b)
    (λ h.
    let (i, lt, p, q) = held_row e' n a b h in
    row_holds e n a b i lt (sym (s i source_word (omega arith) lt) ∙ p) (sym (s i target_word (omega arith) lt) ∙ q))
    (λ h.
    let (i, lt, p, q) = held_row e n a b h in
    row_holds e' n a b i lt (s i source_word (omega arith) lt ∙ p) (s i target_word (omega arith) lt ∙ q))

pub holds_none : (e : List ℕ) (a b : ℕ) → holds e 0 a b ≡ true → ⊥
holds_none e a b h = let (i, lt, p, q) = held_row e 0 a b h in omega arith

-- one more row, behind those of e, adds its edge
pub next_is : (e e' : List ℕ) (n t1 t2 : ℕ) → SameRows e e' n → source e' n ≡ t1 → target e' n ≡ t2 → Is (holds e' (suc n)) (OneMore (holds e n) t1 t2)
next_is e e' n t1 t2 s p q a b = (
  λ h.
      ⊎_elim
      (λ r. inl (sym (same_holds e e' n s a b) ∙ r))
      (λ r. inr (r.0 ∙ p, r.1 ∙ q))
      (holds_less e' n a b h),
  λ h.
      ⊎_elim
      (λ r. holds_more e' n a b (same_holds e e' n s a b ∙ r))
      (λ r. row_holds e' (suc n) a b n (omega arith) (p ∙ sym r.0) (q ∙ sym r.1))
      h,
)

-- newEdge
pub appended_is : (e : List ℕ) (n t1 t2 : ℕ) → n < edge_rows e → Is (holds (appended e n t1 t2) (n + 1)) (OneMore (holds e n) t1 t2)
appended_is e n t1 t2 lt =
    rw add-one
    (next_is e (appended e n t1 t2) n t1 t2 (appended_other e n t1 t2) (appended-source e n t1 t2 lt) (appended-target e n t1 t2 lt))

-- transfer
pub moved_is : (e : List ℕ) (n t t' : ℕ) → n ≤ edge_rows e → Is (holds (moved t t' e n) n) (Moved (holds e n) t t')
moved_is e n t t' le a b = (there, back)
  where
    there : holds (moved t t' e n) n a b ≡ true → Moved (holds e n) t t' a b
    there h =
        let (i, lt, p, q) = held_row (moved t t' e n) n a b h in
        let q' : target e i ≡ b = sym (moved-target t t' e n i) ∙ q in
        ⊎_elim
        (λ r. inr (sym p ∙ moved_from t t' e n i le lt r, row_holds e n t b i lt r q'))
        (λ ne.
        let p' : source e i ≡ a = sym (moved_rest t t' e n i le lt ne) ∙ p in
        inl (row_holds e n a b i lt p' q', λ z. ne (p' ∙ z)))
        (equal? (source e i) t)

    back : Moved (holds e n) t t' a b → holds (moved t t' e n) n a b ≡ true
    back (inl h) =
        let (i, lt, p, q) = held_row e n a b h.0 in
        row_holds (moved t t' e n) n a b i lt (moved_rest t t' e n i le lt (λ z. h.1 (sym p ∙ z)) ∙ p) (moved-target t t' e n i ∙ q)
    back (inr h) =
        let (i, lt, p, q) = held_row e n t b h.1 in
        row_holds (moved t t' e n) n a b i lt (moved_from t t' e n i le lt p ∙ sym h.0) (moved-target t t' e n i ∙ q)

-- stop: a row out of t adds nothing to the rows kept, any other adds its edge
kept_drop_holds :
    (t : ℕ) (e : List ℕ) (n a b : ℕ) → source e n ≡ t → holds (kept t e (suc n)) (kept_rows t e (suc n)) a b ≡ holds (kept t e n) (kept_rows t e n) a b
kept_drop_holds t e n a b r =
    rw (kept_rows_drop t e n r) (same_holds (kept t e n) (kept t e (suc n)) (kept_rows t e n) (kept_front t e n) a b)

kept_keep_is :
    (t : ℕ) (e : List ℕ) (n : ℕ) → (source e n ≡ t → ⊥)
    → Is (holds (kept t e (suc n)) (kept_rows t e (suc n))) (OneMore (holds (kept t e n) (kept_rows t e n)) (source e n) (target e n))
kept_keep_is t e n ne =
    rw (kept_rows_keep t e n ne)
    (next_is (kept t e n) (kept t e (suc n)) (kept_rows t e n) (source e n) (target e n) (kept_front t e n) (kept-source t e n ne) (kept_target t e n ne))

kept_none : (t : ℕ) (e : List ℕ) (a b : ℕ) → holds (kept t e 0) (kept_rows t e 0) a b ≡ true → ⊥
unfolding kept_rows
kept_none t e a b h = holds_none (kept t e 0) a b h

-- so the rows kept hold the edges that do not leave t
kept_is : (t : ℕ) (e : List ℕ) (n : ℕ) → Is (holds (kept t e n) (kept_rows t e n)) (NotFrom (holds e n) t)
kept_is t e zero a b = (λ h. absurd (kept_none t e a b h), λ h. absurd (holds_none e a b h.0))
kept_is t e (suc n) a b = ⊎_elim (drops (kept_is t e n a b)) (keeps (kept_is t e n a b)) (equal? (source e n) t)
  where
    drops :
        (holds (kept t e n) (kept_rows t e n) a b ≡ true) ↔ NotFrom (holds e n) t a b → source e n ≡ t
        → (holds (kept t e (suc n)) (kept_rows t e (suc n)) a b ≡ true) ↔ NotFrom (holds e (suc n)) t a b
    drops ih r =
        rw (kept_drop_holds t e n a b r) (
          λ h. (holds_more e n a b (ih.0 h).0, (ih.0 h).1),
          λ h. ⊎_elim (λ q. ih.1 (q, h.1)) (λ q. absurd (h.1 (q.0 ∙ r))) (holds_less e n a b h.0),
        )

    keeps :
        (holds (kept t e n) (kept_rows t e n) a b ≡ true) ↔ NotFrom (holds e n) t a b → (source e n ≡ t → ⊥)
        → (holds (kept t e (suc n)) (kept_rows t e (suc n)) a b ≡ true) ↔ NotFrom (holds e (suc n)) t a b
    keeps ih ne = (
      λ h.
          ⊎_elim
          (λ q. (holds_more e n a b (ih.0 q).0, (ih.0 q).1))
          (λ q. (row_holds e (suc n) a b n (omega arith) (sym q.0) (sym q.1), λ z. ne (sym q.0 ∙ z)))
          ((kept_keep_is t e n ne a b).0 h),
      λ h.
          (kept_keep_is t e n ne a b).1
          (⊎_elim (λ q. inl (ih.1 (q, h.1))) (λ q. inr q) (holds_less e n a b h.0)),
    )

pub without_is : (t : ℕ) (e : List ℕ) (n : ℕ) → Is (holds (without_edges_of t e n) (kept_rows t e n)) (NotFrom (holds e n) t)
without_is t e n a b =
    rw (same_holds (kept t e n) (without_edges_of t e n) (kept_rows t e n) (without_kept t e n) a b) (kept_is t e n a b)

-- No edge held twice: one more row keeps that, if its edge was not held.
pub twice_next :
    (e e' : List ℕ) (n t1 t2 : ℕ) → SameRows e e' n → source e' n ≡ t1 → target e' n ≡ t2 → (holds e n t1 t2 ≡ true → ⊥) → NoneTwice e n → NoneTwice e' (suc n)
twice_next e e' n t1 t2 s p q new none i j lt lj r u =
    let ps = s i source_word (omega arith) (omega arith) in
    let pt = s i target_word (omega arith) (omega arith) in
    ⊎_elim
    (λ z.
    new
    (row_holds e n t1 t2 i (omega arith) (sym ps ∙ r ∙ ap (λ (k : ℕ). source e' k) z ∙ p) (sym pt ∙ u ∙ ap (λ (k : ℕ). target e' k) z ∙ q)))
    (λ l.
    none i j lt l
    (sym ps ∙ r ∙ s j source_word (omega arith) l)
    (sym pt ∙ u ∙ s j target_word (omega arith) l))
    (below_suc lj)

twice_same : (e e' : List ℕ) (n : ℕ) → SameRows e e' n → NoneTwice e n → NoneTwice e' n
twice_same e e' n s none i j lt lj p q =
    none i j lt lj
    (sym (s i source_word (omega arith) (omega arith)) ∙ p ∙ s j source_word (omega arith) lj)
    (sym (s i target_word (omega arith) (omega arith)) ∙ q ∙ s j target_word (omega arith) lj)

-- newEdge
pub appended_once : (e : List ℕ) (n t1 t2 : ℕ) → n < edge_rows e → (holds e n t1 t2 ≡ true → ⊥) → NoneTwice e n → NoneTwice (appended e n t1 t2) (n + 1)
appended_once e n t1 t2 lt new none =
    rw add-one
    (twice_next e (appended e n t1 t2) n t1 t2 (appended_other e n t1 t2) (appended-source e n t1 t2 lt) (appended-target e n t1 t2 lt) new none)

-- transfer: t' has no edge out, so a row that is moved differs from each that is not
pub moved_once : (e : List ℕ) (n t t' : ℕ) → n ≤ edge_rows e → ((b : ℕ) → holds e n t' b ≡ true → ⊥) → NoneTwice e n → NoneTwice (moved t t' e n) n
moved_once e n t t' le free none i j lt lj p q =
    ⊎_elim
    (λ x. ⊎_elim (λ y. none i j lt lj (x ∙ sym y) targets)
    (λ y. out j lj (sym (moved_rest t t' e n j le lj y) ∙ sym p ∙ moved_from t t' e n i le li x)) (equal? (source e j) t))
    (λ x.
    ⊎_elim
    (λ y. out i li (sym (moved_rest t t' e n i le li x) ∙ p ∙ moved_from t t' e n j le lj y))
    (λ y. none i j lt lj (sym (moved_rest t t' e n i le li x) ∙ p ∙ moved_rest t t' e n j le lj y) targets)
    (equal? (source e j) t))
    (equal? (source e i) t)
  where
    li : i < n
    li = omega arith

    targets : target e i ≡ target e j
    targets = sym (moved-target t t' e n i) ∙ q ∙ moved-target t t' e n j

    out : (k : ℕ) → k < n → source e k ≡ t' → ⊥
    out k lk z = free (target e k) (row_holds e n t' (target e k) k lk z refl)

-- stop
kept_once : (t : ℕ) (e : List ℕ) (n : ℕ) → NoneTwice e n → NoneTwice (kept t e n) (kept_rows t e n)
kept_once t e zero none = λ i j lt lj p q. omega (arith, kept_rows_le t e 0)
kept_once t e (suc n) none =
    let before : NoneTwice (kept t e n) (kept_rows t e n) = kept_once t e n (λ i j lt lj. none i j lt (omega arith)) in
    ⊎_elim
    (λ r. rw (kept_rows_drop t e n r) (twice_same (kept t e n) (kept t e (suc n)) (kept_rows t e n) (kept_front t e n) before))
    (λ ne.
    rw (kept_rows_keep t e n ne)
    (twice_next (kept t e n) (kept t e (suc n)) (kept_rows t e n) (source e n) (target e n) (kept_front t e n) (kept-source t e n ne) (kept_target t e n ne)
    (λ h.
    let (i, lt, p, q) = held_row e n (source e n) (target e n) ((kept_is t e n (source e n) (target e n)).0 h).0 in
    none i n lt (omega arith) p q)
    before))
    (equal? (source e n) t)

pub without_once : (t : ℕ) (e : List ℕ) (n : ℕ) → NoneTwice e n → NoneTwice (without_edges_of t e n) (kept_rows t e n)
without_once t e n none = twice_same (kept t e n) (without_edges_of t e n) (kept_rows t e n) (without_kept t e n) (kept_once t e n none)
