-- The rows out of a vertex, taken off the in-counts of their targets one by one from the last to the first.
use Rattle.std.specs.Ordering.{nat_cmp, ord_max}
use Prim.Native.Nat.{ℕ, zero, suc, ◌+◌, ◌-◌, ◌*◌, ◌≤◌, ◌<◌, min, max}
use mathlib.Core.Path.{◌≡◌, refl, sym, ◌∙◌, ap, subst}
use mathlib.Core.Bool.{Bool, cond}
use mathlib.Core.Logic.{◌⊎◌, inl, inr, ⊎_elim}
use mathlib.Core.List.{List}
use native.Mathlib.Omega.{arith}
use lib.ListN.{length}
use lib.Seq.{set_comm}
use lib.Dec.{eqb, ltb}
use borrow.Author.Tests.{eq-eqb, ne_eqb, ltb-true, ltb-false}
use Rattle.graph.specs.Tests.{how_many}
use Rattle.graph.specs.Tables.{usable_limit, vertex_words, in_count_word, in_count, set_vertex_word, source, target}
use Rattle.graph.specs.Commands.{less_into, lowered}
use Rattle.graph.proofs.TestLaws.{decide, equal?}
use Rattle.graph.proofs.TableLaws.{length_less, less_other, lowered_drop, lowered_keep}
use Rattle.index.specs.Layout.{last_out, before_out, Indexed}
use Rattle.index.proofs.OutLaws.{Skips, OutOf, out_first, out_here, out_next, skip_first, skip_next, none_after, none_between}

-- one edge less into each of two vertices, in either order
less_other_first : (v : List ℕ) (a b : ℕ) → (a ≡ b → ⊥) → less_into (less_into v a) b ≡ set_vertex_word (less_into v a) b in_count_word (in_count v b - 1)
unfolding less_into
less_other_first v a b ne =
    ap (λ (k : ℕ). set_vertex_word (set_vertex_word v a in_count_word (in_count v a - 1)) b in_count_word (k - 1)) (less_other v a b (λ q. ne (sym q)))

less_apart : (v : List ℕ) (a b : ℕ) → (a ≡ b → ⊥) → less_into (less_into v a) b ≡ less_into (less_into v b) a
unfolding less_into
less_apart v a b ne =
    less_other_first v a b ne
    ∙ set_comm v (vertex_words * a + in_count_word) (vertex_words * b + in_count_word) (in_count v a - 1) (in_count v b - 1) (λ q. ne (omega arith))
    ∙ sym (less_other_first v b a (λ q. ne (sym q)))

less_swaps : (v : List ℕ) (a b : ℕ) → less_into (less_into v a) b ≡ less_into (less_into v b) a
less_swaps v a b =
    ⊎_elim (λ q. subst (λ (k : ℕ). less_into (less_into v a) k ≡ less_into (less_into v k) a) q refl) (less_apart v a b) (equal? a b)

module _ (t : ℕ) (e : List ℕ) where
  lowered_of_less : (v : List ℕ) (k n : ℕ) → lowered t e (less_into v k) n ≡ less_into (lowered t e v n) k
  lowered_of_less v k zero = unfold lowered in refl
  lowered_of_less v k (suc n) =
      let before = lowered_of_less v k n in
      ⊎_elim
      (λ q.
      lowered_drop t e (less_into v k) n q
      ∙ ap (λ (l : List ℕ). less_into l (target e n)) before
      ∙ less_swaps (lowered t e v n) k (target e n)
      ∙ ap (λ (l : List ℕ). less_into l k) (sym (lowered_drop t e v n q)))
      (λ ne. lowered_keep t e (less_into v k) n ne ∙ before ∙ ap (λ (l : List ℕ). less_into l k) (sym (lowered_keep t e v n ne)))
      (equal? (source e n) t)

  -- how many of the first n rows are out of t
  abbrev out_rows : ℕ → ℕ
  out_rows n = how_many (λ i. eqb (source e i) t) n

  rows_none : out_rows 0 ≡ 0
  unfolding how_many
  rows_none = refl

  rows_here : (n : ℕ) → source e n ≡ t → out_rows (suc n) ≡ out_rows n + 1
  unfolding how_many
  rows_here n q = ap (λ (b : Bool). out_rows n + cond b 1 0) (eq-eqb (source e n) t q)

  rows_skip : Skips e t out_rows
  unfolding how_many
  rows_skip n ne = ap (λ (b : Bool). out_rows n + cond b 1 0) (ne_eqb (source e n) t ne) ∙ omega arith

-- Of the first n rows of x those out of t, but for the ones before `left`, were taken off the in-counts of v₀, which gave v; they are `dropped`, and
-- their targets lie from `lowest` to `highest`, which is one of them, or 0.
pub record Lowering (x : List ℕ) (n t : ℕ) (v₀ v : List ℕ) (dropped lowest highest left : ℕ) : Type 0 where
  pub rest : lowered t x v₀ n ≡ lowered t x v left
  pub counted : out_rows t x n ≡ dropped + out_rows t x left
  pub few : dropped + left ≤ n
  pub between : (i : ℕ) → left ≤ i → i < n → source x i ≡ t → (lowest ≤ target x i) × (target x i ≤ highest)
  pub top : (m : ℕ) → 0 < m → ((i : ℕ) → i < n → source x i ≡ t → target x i < m) → highest < m
  pub long : length v ≡ length v₀

module _ (x : List ℕ) (n t : ℕ) (v₀ : List ℕ) (h : Indexed x n) (lt : t < usable_limit) where
  pub lowering_first : (lowest : ℕ) → Lowering x n t v₀ v₀ 0 lowest 0 (last_out x t)
  lowering_first lowest =
      record {
        rest = skip_first x n t (lowered t x v₀) h lt (lowered_keep t x v₀);
        counted = skip_first x n t (out_rows t x) h lt (rows_skip t x) ∙ omega arith;
        few = omega (arith, (out_first x n t h lt).within);
        between = λ i le l q. absurd (omega (arith, none_after x n t h lt i l q));
        top = λ m l f. l;
        long = refl;
      }

  module _
      (v : List ℕ) (dropped lowest highest left : ℕ) (at : OutOf x n t left) (more : left ≡ 0 → ⊥)
      (so_far : Lowering x n t v₀ v dropped lowest highest left)
    where
      abbrev here : ℕ
      here = target x (left - 1)

      abbrev next : ℕ
      next = before_out x (left - 1)

      next_rest : lowered t x v₀ n ≡ lowered t x (less_into v here) next
      next_rest =
          let one : left ≡ suc (left - 1) = omega arith in
          so_far.rest
          ∙ ap (lowered t x v) one
          ∙ lowered_drop t x v (left - 1) (out_here x n t left at more).1
          ∙ sym (lowered_of_less t x v here (left - 1))
          ∙ skip_next x n t left at more h lt (lowered t x (less_into v here)) (lowered_keep t x (less_into v here))

      next_counted : out_rows t x n ≡ dropped + 1 + out_rows t x next
      next_counted =
          let one : left ≡ suc (left - 1) = omega arith in
          let now : out_rows t x left ≡ out_rows t x (left - 1) + 1 = ap (out_rows t x) one ∙ rows_here t x (left - 1) (out_here x n t left at more).1 in
          let then : out_rows t x (left - 1) ≡ out_rows t x next = skip_next x n t left at more h lt (out_rows t x) (rows_skip t x) in
          so_far.counted ∙ omega arith

      -- a row from the next one on is the row at hand, or comes after it
      sorted : (i : ℕ) → next ≤ i → source x i ≡ t → (left ≤ i) ⊎ (target x i ≡ here)
      sorted i le q =
          ⊎_elim
          (λ s. inr (ap (target x) s))
          (λ ne.
          ⊎_elim
          (λ b. absurd (none_between x n t left at more h lt i le (ltb-true i (left - 1) b) q))
          (λ b. let ge : left - 1 ≤ i = ltb-false i (left - 1) b in inl (omega arith))
          (decide (ltb i (left - 1))))
          (equal? i (left - 1))

      -- one row more
      pub lowering_next :
          (v' : List ℕ) (lowest' highest' : ℕ) → v' ≡ less_into v here → (lowest' ≤ lowest) × (lowest' ≤ here)
          → (highest ≤ highest') × (here ≤ highest') × (highest' ≤ max highest here)
          → Lowering x n t v₀ v' (dropped + 1) lowest' highest' next
      lowering_next v' lowest' highest' less low high =
          let falls : next < left = (out_next x n t left at more h lt).1 in
          let (inside, out) = out_here x n t left at more in
          rw less
          (record {
            rest = next_rest;
            counted = next_counted;
            few = omega (arith, so_far.few);
            between =
                λ i le l q.
                ⊎_elim (λ s. let b = so_far.between i s l q in (omega arith, omega arith)) (λ s. (omega arith, omega arith)) (sorted i le q);
            top = λ m l f. omega (arith, so_far.top m l f, f (left - 1) inside out);
            long = length_less v here ∙ so_far.long;
          })

  -- all of them
  pub lowering_end :
      (v : List ℕ) (dropped lowest highest left : ℕ) → left ≡ 0 → Lowering x n t v₀ v dropped lowest highest left
      → (v ≡ lowered t x v₀ n) × (dropped ≡ out_rows t x n)
      × ((i : ℕ) → i < n → source x i ≡ t → (lowest ≤ target x i) × (target x i ≤ highest))
      × ((m : ℕ) → 0 < m → ((i : ℕ) → i < n → source x i ≡ t → target x i < m) → highest < m)
  unfolding lowered
  lowering_end v dropped lowest highest left q all = (
    sym (all.rest ∙ ap (lowered t x v) q),
    sym (all.counted ∙ ap (λ (k : ℕ). dropped + out_rows t x k) q ∙ ap (λ (k : ℕ). dropped + k) (rows_none t x) ∙ omega arith),
    λ i l r. all.between i (omega arith) l r,
    all.top,
  )

-- the lower and the higher of two numbers
pub lower_told : (a b : ℕ) {r : ℕ} → r ≡ min a b → (r ≤ a) × (r ≤ b)
lower_told a b h = (omega arith, omega arith)

pub higher_told : (a b : ℕ) {r : ℕ} → r ≡ ord_max nat_cmp a b → (a ≤ r) × (b ≤ r) × (r ≤ max a b)
higher_told a b h = (grind arith, grind arith, grind arith)
