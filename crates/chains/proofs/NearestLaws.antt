-- The pass over the held edges that finds for each vertex the lowest vertex one edge nearer: the test, path by path, and what a row
-- leaves.
use Prim.Native.Nat.{ℕ, suc, ◌+◌, ◌-◌, ◌<◌, ◌≤◌}
use mathlib.Core.Path.{◌≡◌, refl, sym, ◌∙◌, ap, subst}
use mathlib.Core.Bool.{true, false}
use mathlib.Core.Logic.{⊎_elim}
use mathlib.Core.List.{List, []}
use native.Mathlib.Numerals.{add-one}
use native.Mathlib.Omega.{arith}
use lib.ListN.{length, get_or, set, length-set, length-replicate, get_or-replicate}
use lib.Seq.{get_or-set_same, get_or-set_other}
use lib.Dec.{eqb, ltb}
use borrow.Author.Tests.{eq-eqb, ne_eqb, eqb-true, lt-ltb, le-ltb}
use Rattle.graph.specs.Tests.{both}
use Rattle.graph.specs.Tables.{edge_words, source, target}
use Rattle.graph.specs.Paths.{holds}
use Rattle.graph.specs.Internal.FirstRows.{FirstRows}
use Rattle.graph.specs.Internal.Search.{search_limit}
use Rattle.graph.proofs.TestLaws.{same, equal?, at_end, both_true, both_right, both-false_left, both-false_right}
use Rattle.graph.proofs.PathLaws.{held_row, holds_at, holds_less, holds_more}
use Rattle.chains.specs.Internal.Walk.{is_nearer, none_nearer, Nearest}

-- the test
module _ (m : List ℕ) (to a x : ℕ) where
  pub at_goal : x ≡ to → eqb (get_or m a 0) 1 ≡ is_nearer m to a x
  unfolding is_nearer
  at_goal h = rw (eq-eqb x to h) refl

  pub elsewhere : (x ≡ to → ⊥) → is_nearer m to a x ≡ both (ltb 0 (get_or m x 0)) (eqb (get_or m a 0) (suc (get_or m x 0)))
  unfolding is_nearer
  elsewhere h = rw (ne_eqb x to h) refl

  pub unmarked_not : (x ≡ to → ⊥) → get_or m x 0 ≡ 0 → false ≡ is_nearer m to a x
  unmarked_not h z = sym (elsewhere h ∙ both-false_left _ (le-ltb 0 (get_or m x 0) (omega arith)))

  pub farther_not : (x ≡ to → ⊥) → get_or m a 0 ≤ get_or m x 0 → false ≡ is_nearer m to a x
  farther_not h le = sym (elsewhere h ∙ both-false_right _ (ne_eqb (get_or m a 0) (suc (get_or m x 0)) (λ p. omega arith)))

  pub by_one : (x ≡ to → ⊥) → (get_or m x 0 ≡ 0 → ⊥) → get_or m x 0 < get_or m a 0 → eqb (get_or m a 0 - get_or m x 0) 1 ≡ is_nearer m to a x
  by_one h z lt =
      same _ _
      (λ p.
      let d = eqb-true (get_or m a 0 - get_or m x 0) 1 p in
      elsewhere h ∙ both_true (lt-ltb 0 (get_or m x 0) (omega arith)) (eq-eqb (get_or m a 0) (suc (get_or m x 0)) (omega arith)))
      (λ p.
      let d = eqb-true (get_or m a 0) (suc (get_or m x 0)) (both_right _ _ (sym (elsewhere h) ∙ p)) in
      eq-eqb (get_or m a 0 - get_or m x 0) 1 (omega arith))

pub none_long : {l : List ℕ} → l ≡ none_nearer → length l ≡ search_limit
none_long h = ap length h ∙ length-replicate {A = ℕ} search_limit search_limit

-- the words of a row that is at hand
pub row_at :
    {e : List ℕ} {n i : ℕ} {rows : List (List ℕ)} → FirstRows edge_words e n rows → i < length rows
    → (i < n) × (get_or (get_or rows i []) 0 0 ≡ source e i) × (get_or (get_or rows i []) 1 0 ≡ target e i)
row_at {i = i} are lt = let below = are.count in (omega arith, are.word i 0 (omega arith) (omega arith), are.word i 1 (omega arith) (omega arith))

-- no row was looked at
pub nearest_none : (e : List ℕ) (to : ℕ) (m : List ℕ) → Nearest e 0 to m none_nearer
nearest_none e to m =
    record {
      long = none_long refl;
      found = λ a below lt. absurd (omega (arith, get_or-replicate search_limit a search_limit 0 lt));
      lowest = λ a x h. let (i, lt, p, q) = held_row e 0 a x h in absurd (omega arith);
    }

module _ (e : List ℕ) (i to : ℕ) (m near : List ℕ) (h : Nearest e i to m near) where
  -- row i tells nothing lower
  pub nearest_same : (is_nearer m to (source e i) (target e i) ≡ true → get_or near (source e i) 0 ≤ target e i) → Nearest e (i + 1) to m near
  nearest_same le =
      rw (add-one i)
      (record {
        long = h.long;
        found = λ a below lt. let (edge, nearer) = h.found a below lt in (holds_more e i a _ edge, nearer);
        lowest =
            λ a x edge nearer.
            ⊎_elim
            (λ old. h.lowest a x old nearer)
            (λ new.
            let at : is_nearer m to (source e i) (target e i) ≡ true =
            subst (λ (y : ℕ). is_nearer m to (source e i) y ≡ true) new.1 (subst (λ (y : ℕ). is_nearer m to y x ≡ true) new.0 nearer)
            in
            let below = le at in
            subst (λ (y : ℕ). get_or near y 0 ≤ x) (sym new.0) (subst (λ (y : ℕ). get_or near (source e i) 0 ≤ y) (sym new.1) below))
            (holds_less e i a x edge);
      })

  -- its target is lower than what was found
  pub nearest_put :
      is_nearer m to (source e i) (target e i) ≡ true → target e i < get_or near (source e i) 0 → source e i < search_limit
      → Nearest e (i + 1) to m (set near (source e i) (target e i))
  nearest_put nearer lower lt =
      rw (add-one i)
      (record {
        long = simp length-set h.long;
        found =
            λ a below usable.
            ⊎_elim
            (λ same_row.
            subst (λ (y : ℕ). (holds e (suc i) y (get_or (put) y 0) ≡ true) × (is_nearer m to y (get_or (put) y 0) ≡ true)) (sym same_row)
            (subst (λ (y : ℕ). (holds e (suc i) (source e i) y ≡ true) × (is_nearer m to (source e i) y ≡ true)) (sym here)
            (holds_at e (suc i) i (omega arith), nearer)))
            (λ other.
            let kept = there a other in
            let (edge, near_by) = h.found a (subst (λ (y : ℕ). y < search_limit) kept below) usable in
            subst (λ (y : ℕ). (holds e (suc i) a y ≡ true) × (is_nearer m to a y ≡ true)) (sym kept) (holds_more e i a _ edge, near_by))
            (equal? a (source e i));
        lowest =
            λ a x edge near_by.
            ⊎_elim
            (λ old. let was = h.lowest a x old near_by in falls a x was)
            (λ new. subst (λ (y : ℕ). get_or put y 0 ≤ x) (sym new.0) (omega (arith, here, new.1)))
            (holds_less e i a x edge);
      })
    where
      put : List ℕ
      put = set near (source e i) (target e i)

      here : get_or put (source e i) 0 ≡ target e i
      here = get_or-set_same near (source e i) (target e i) 0 (omega (arith, h.long))

      there : (a : ℕ) → (a ≡ source e i → ⊥) → get_or put a 0 ≡ get_or near a 0
      there a ne = get_or-set_other near (source e i) a (target e i) 0 ne

      falls : (a x : ℕ) → get_or near a 0 ≤ x → get_or put a 0 ≤ x
      falls a x was =
          ⊎_elim
          (λ p. subst (λ (y : ℕ). get_or put y 0 ≤ x) (sym p) (let w = subst (λ (y : ℕ). get_or near y 0 ≤ x) p was in omega (arith, here)))
          (λ ne. omega (arith, there a ne))
          (equal? a (source e i))

-- the same of words that are the row's
module _ (e : List ℕ) (i to : ℕ) (m near : List ℕ) (h : Nearest e i to m near) {a b : ℕ} (from : a ≡ source e i) (into : b ≡ target e i) where
  pub row_same : get_or near a 0 ≤ b → Nearest e (i + 1) to m near
  row_same le = nearest_same e i to m near h (λ z. rw (← from, ← into) le)

  pub row_put : is_nearer m to a b ≡ true → b < get_or near a 0 → source e i < search_limit → Nearest e (i + 1) to m (set near a b)
  row_put nearer lower lt = rw (from, into) (nearest_put e i to m near h (rw (← from, ← into) nearer) (rw (← from, ← into) lower) lt)

pub nearest_all : (e : List ℕ) (n i to : ℕ) (m near : List ℕ) → i ≤ n → n ≤ i → Nearest e i to m near → Nearest e n to m near
nearest_all e n i to m near p q = at_end (λ k. Nearest e k to m near) p q
