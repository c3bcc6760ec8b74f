-- The rows with one target, linked. `last_into e v n` is all that has to be known of them: it is a row into v, and every row into v below
-- n is below it or is it. So a search that goes on from row i at `last_into e v i` leaves none out. That is so for either word of the rows.
use Prim.Native.Nat.{ℕ, zero, suc, ◌+◌, ◌≤◌, ◌<◌}
use mathlib.Core.Path.{◌≡◌, refl, sym, ◌∙◌, ap, subst}
use mathlib.Core.Bool.{Bool, cond}
use mathlib.Core.Logic.{⊎_elim}
use mathlib.Core.List.{List}
use native.Mathlib.Numerals.{add-one}
use native.Mathlib.Omega.{arith}
use lib.ListN.{length, get_or, set, length-set, length-replicate, get_or-replicate}
use lib.Seq.{get_or-set_same, get_or-set_other}
use borrow.Author.Tests.{eq-eqb, ne_eqb, ltb-true}
use Rattle.graph.specs.Tables.{target_word, edge_word, source, target}
use Rattle.graph.specs.Sound.{ends_made, edges_made}
use Rattle.graph.specs.Internal.Search.{search_limit, Rows, last_with, last_into, Linked, RowsFrom, blank}
use Rattle.graph.proofs.TestLaws.{equal?, below_suc, both_left, both_right, every_at, every_all}

module _ (w : ℕ) (e : List ℕ) (v : ℕ) where
  pub last_here : (n : ℕ) → edge_word e n w ≡ v → last_with w e v (suc n) ≡ suc n
  unfolding last_with
  last_here n h = ap (λ (b : Bool). cond b (suc n) (last_with w e v n)) (eq-eqb _ _ h)

  pub last_other : (n : ℕ) → (edge_word e n w ≡ v → ⊥) → last_with w e v (suc n) ≡ last_with w e v n
  unfolding last_with
  last_other n h = ap (λ (b : Bool). cond b (suc n) (last_with w e v n)) (ne_eqb _ _ h)

  pub last_none : last_with w e v 0 ≡ 0
  unfolding last_with
  last_none = refl

  -- it is such a row
  pub last_row : (n i : ℕ) → last_with w e v n ≡ suc i → (i < n) × (edge_word e i w ≡ v)
  last_row zero i h = absurd (let z : ◌≡◌ {A = ℕ} 0 (suc i) = sym last_none ∙ h in omega arith)
  last_row (suc n) i h =
      ⊎_elim
      (λ q.
      let r : suc n ≡ suc i = sym (last_here n q) ∙ h in
      let s : n ≡ i = omega arith in
      (omega arith, subst (λ (k : ℕ). edge_word e k w ≡ v) s q))
      (λ q. let (lt, r) = last_row n i (sym (last_other n q) ∙ h) in (omega arith, r))
      (equal? (edge_word e n w) v)

  -- and none below n comes after it
  pub below_last : (n i : ℕ) → i < n → edge_word e i w ≡ v → i < last_with w e v n
  below_last zero i lt h = absurd (omega arith)
  below_last (suc n) i lt h =
      ⊎_elim
      (λ q. omega (arith, last_here n q))
      (λ q.
      let r = ⊎_elim {C = i < last_with w e v n} (λ s. absurd (q (subst (λ (k : ℕ). edge_word e k w ≡ v) s h))) (λ l. below_last n i l h) (below_suc lt) in
      omega (arith, last_other n q))
      (equal? (edge_word e n w) v)

  pub last_below : (n : ℕ) → last_with w e v n ≤ n
  last_below zero = omega (arith, last_none)
  last_below (suc n) = ⊎_elim (λ q. omega (arith, last_here n q)) (λ q. omega (arith, last_other n q, last_below n)) (equal? (edge_word e n w) v)

pub blank_long : {l : List ℕ} → l ≡ blank → length l ≡ search_limit
blank_long h = ap length h ∙ length-replicate {A = ℕ} search_limit 0

-- no row is linked yet
pub link_none : (e next : List ℕ) → Linked e 0 blank next
link_none e next =
    record {
      long = blank_long refl;
      starts = λ v lt. get_or-replicate search_limit v 0 0 lt ∙ sym (last_none target_word e v);
      links = λ i lt. absurd (omega arith);
    }

-- row i is put in front of the rows with its target
pub link_more :
    (e : List ℕ) (i : ℕ) (first next : List ℕ) → Linked e i first next → target e i < search_limit → i < length next
    → Linked e (i + 1) (set first (target e i) (i + 1)) (set next i (get_or first (target e i) 0))
link_more e i first next h lt in_next =
    rw (add-one i)
    (record {
      long = simp length-set h.long;
      starts =
          λ v l.
          ⊎_elim
          (λ q.
          subst (λ (x : ℕ). get_or (set first (target e i) (suc i)) x 0 ≡ last_into e x (suc i)) q
          (get_or-set_same first (target e i) (suc i) 0 (omega arith) ∙ sym (last_here target_word e (target e i) i refl)))
          (λ q. get_or-set_other first (target e i) v (suc i) 0 (λ r. q (sym r)) ∙ (h.starts v l ∙ sym (last_other target_word e v i q)))
          (equal? (target e i) v);
      links =
          λ k l.
          ⊎_elim
          (λ q.
          subst (λ (x : ℕ). get_or (set next i (get_or first (target e i) 0)) x 0 ≡ last_into e (target e x) x) (sym q)
          (get_or-set_same next i _ 0 in_next ∙ h.starts (target e i) lt))
          (λ q. get_or-set_other next i k _ 0 (λ r. omega arith) ∙ h.links k q)
          (below_suc l);
    })

-- fewer rows can be read as well
rows_fewer : (e : List ℕ) (n k : ℕ) → k ≤ n → Rows e n → Rows e k
unfolding edges_made
rows_fewer e n k le h =
    record {
      full = omega arith;
      few = omega arith;
      ends = every_all _ k (λ i lt. every_at _ n h.ends i (omega arith));
    }

pub ends_made_lem : (e : List ℕ) (n i : ℕ) → Rows e n → i < n → (source e i < search_limit) × (target e i < search_limit)
unfolding edges_made ends_made
ends_made_lem e n i h lt =
    let q = every_at _ n h.ends i lt in
    (ltb-true _ _ (both_left _ _ q), ltb-true _ _ (both_right _ _ q))

-- a row that is followed: its source is a vertex of a search, and the next one is below it
pub linked_row : (e next : List ℕ) (c i : ℕ) → RowsFrom e next c → i < c → (source e i < search_limit) × (get_or next i 0 ≤ i)
linked_row e next c i h lt =
    ((ends_made_lem e c i h.rows lt).0, omega (arith, h.links i lt, last_below target_word e (target e i) i))

-- the rows into v can be followed
pub rows_into : (e first next : List ℕ) (n v : ℕ) → Rows e n → n ≤ length next → Linked e n first next → v < search_limit → RowsFrom e next (get_or first v 0)
rows_into e first next n v rows fits h lt =
    let le : get_or first v 0 ≤ n = omega (arith, h.starts v lt, last_below target_word e v n) in
    record { rows = rows_fewer e n (get_or first v 0) le rows; long = omega arith; links = λ i l. h.links i (omega arith) }
