-- The rows out of a vertex, followed from the last to the first: what a walk over them knows after each row.
use Prim.Native.Nat.{ℕ, zero, suc, ◌-◌, ◌≤◌, ◌<◌}
use mathlib.Core.Path.{◌≡◌, refl, sym, ◌∙◌, ap}
use mathlib.Core.Bool.{true, false, not}
use mathlib.Core.List.{List}
use native.Mathlib.Omega.{arith}
use lib.Dec.{eqb}
use borrow.Author.Tests.{eq-eqb, ne_eqb}
use Rattle.graph.specs.Tests.{any}
use Rattle.graph.specs.Tables.{usable_limit, source_word, source, target}
use Rattle.graph.specs.Paths.{holds, leads_out_of}
use Rattle.graph.proofs.TestLaws.{any_at, both-false_left, both-false_right, either_skip}
use Rattle.graph.proofs.EdgeLoops.{held_none, held_found, out_none}
use Rattle.graph.specs.Internal.Search.{last_with}
use Rattle.index.specs.Layout.{last_out, before_out, Indexed}
use Rattle.index.proofs.LinkLaws.{last_below, last_row, below_last, last_skip}

-- f does not change at a row that is not out of v
abbrev pub Skips : List ℕ → ℕ → {A : Type 0} → (ℕ → A) → Type 0
Skips x v f = (n : ℕ) → (source x n ≡ v → ⊥) → f (suc n) ≡ f n

-- of the first n rows of x, those out of v are followed: the next has the number `left`, counted from 1, or there is none left
pub record OutOf (x : List ℕ) (n v left : ℕ) : Type 0 where
  pub within : left ≤ n
  pub there : (i : ℕ) → left ≡ suc i → source x i ≡ v

module _ (x : List ℕ) (n v : ℕ) where
  out_last : (k : ℕ) → k ≤ n → OutOf x n v (last_with source_word x v k)
  out_last k le =
      record { within = omega (arith, last_below source_word x v k); there = λ i q. last_row source_word x v k i q }

  -- the last row
  pub out_first : Indexed x n → v < usable_limit → OutOf x n v (last_out x v)
  out_first h lv = rw (h.outs v lv) (out_last n (omega arith))

  pub skip_first : {A : Type 0} (f : ℕ → A) → Indexed x n → v < usable_limit → Skips x v f → f n ≡ f (last_out x v)
  skip_first f h lv skips = last_skip source_word x v f skips n ∙ ap f (sym (h.outs v lv))

  -- no row out of v comes after the last
  pub none_after : Indexed x n → v < usable_limit → (i : ℕ) → i < n → source x i ≡ v → i < last_out x v
  none_after h lv i lt q = omega (arith, h.outs v lv, below_last source_word x v n i lt q)

  module _ (left : ℕ) (at : OutOf x n v left) (more : left ≡ 0 → ⊥) where
    -- the row at hand
    pub out_here : (left - 1 < n) × (source x (left - 1) ≡ v)
    out_here = (omega (arith, at.within), at.there (left - 1) (omega arith))

    module _ (h : Indexed x n) (lv : v < usable_limit) where
      pub next_is : before_out x (left - 1) ≡ last_with source_word x v (left - 1)
      next_is =
          let (lt, q) = out_here in
          h.out_links (left - 1) lt (omega arith) ∙ ap (λ (k : ℕ). last_with source_word x k (left - 1)) q

      -- the next one
      pub out_next : OutOf x n v (before_out x (left - 1)) × (before_out x (left - 1) < left)
      out_next = rw next_is (out_last (left - 1) (omega (arith, at.within)), omega (arith, last_below source_word x v (left - 1)))

      pub skip_next : {A : Type 0} (f : ℕ → A) → Skips x v f → f (left - 1) ≡ f (before_out x (left - 1))
      skip_next f skips = last_skip source_word x v f skips (left - 1) ∙ ap f (sym next_is)

      -- there is no row out of v in between
      pub none_between : (i : ℕ) → before_out x (left - 1) ≤ i → i < left - 1 → source x i ≡ v → ⊥
      none_between i le lt q = omega (arith, next_is, below_last source_word x v (left - 1) i lt q)

-- WHETHER A ROW LEADS OUT OF v
out_skips : (x : List ℕ) (v : ℕ) → Skips x v (λ k. leads_out_of x k v)
unfolding leads_out_of any
out_skips x v k ne = sym (either_skip _ (ne_eqb (source x k) v ne))

pub out_at : (x : List ℕ) (n v i : ℕ) → i < n → source x i ≡ v → leads_out_of x n v ≡ true
unfolding leads_out_of
out_at x n v i lt q = any_at _ n i lt (eq-eqb (source x i) v q)

pub out_is : (x : List ℕ) (n v : ℕ) → Indexed x n → v < usable_limit → not (eqb (last_out x v) 0) ≡ leads_out_of x n v
out_is x n v h lv = go (last_out x v) (skip_first x n v (λ k. leads_out_of x k v) h lv (out_skips x v)) (out_first x n v h lv)
  where
    go : (k : ℕ) → leads_out_of x n v ≡ leads_out_of x k v → OutOf x n v k → not (eqb k 0) ≡ leads_out_of x n v
    go zero q at = sym (q ∙ out_none x v)
    go (suc i) q at = ap not (ne_eqb (suc i) 0 (λ r. omega arith)) ∙ sym (out_at x n v i at.within (at.there i refl))

-- WHETHER A ROW LEADS FROM a TO b
module _ (x : List ℕ) (n a b : ℕ) where
  held_skips : Skips x a (λ k. holds x k a b)
  unfolding holds any
  held_skips k ne = sym (either_skip _ (both-false_left _ (ne_eqb (source x k) a ne)))

  held_passes : (k : ℕ) → (target x k ≡ b → ⊥) → holds x (suc k) a b ≡ holds x k a b
  unfolding holds any
  held_passes k ne = sym (either_skip _ (both-false_right _ (ne_eqb (target x k) b ne)))

  pub held_first : Indexed x n → a < usable_limit → holds x n a b ≡ holds x (last_out x a) a b
  held_first h la = skip_first x n a (λ k. holds x k a b) h la held_skips

  pub held_next :
      (left : ℕ) → Indexed x n → a < usable_limit → OutOf x n a left → (left ≡ 0 → ⊥) → (target x (left - 1) ≡ b → ⊥)
      → holds x n a b ≡ holds x left a b → holds x n a b ≡ holds x (before_out x (left - 1)) a b
  held_next left h la at more ne so_far =
      let one : left ≡ suc (left - 1) = omega arith in
      so_far
      ∙ ap (λ (k : ℕ). holds x k a b) one
      ∙ held_passes (left - 1) ne
      ∙ skip_next x n a left at more h la (λ k. holds x k a b) held_skips

  pub held_here : (left : ℕ) → OutOf x n a left → (left ≡ 0 → ⊥) → target x (left - 1) ≡ b → true ≡ holds x n a b
  held_here left at more q = let (lt, p) = out_here x n a left at more in held_found x n (left - 1) a b lt p q

  pub held_end : (left : ℕ) → left ≡ 0 → holds x n a b ≡ holds x left a b → false ≡ holds x n a b
  held_end left q so_far = sym (so_far ∙ ap (λ (k : ℕ). holds x k a b) q ∙ held_none x a b)
