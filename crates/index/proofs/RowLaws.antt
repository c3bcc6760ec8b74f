-- Tables with the same first rows come to the same.
use Prim.Native.Nat.{ℕ, zero, suc, ◌<◌}
use mathlib.Core.Path.{◌≡◌, refl}
use mathlib.Core.Bool.{Bool}
use mathlib.Core.List.{List}
use native.Mathlib.Omega.{arith}
use Rattle.graph.specs.Tests.{any}
use Rattle.graph.specs.Tables.{source, target}
use Rattle.graph.specs.Paths.{holds, leads_out_of, reaches}
use Rattle.graph.specs.Commands.{kept, kept_rows, lowered_row, lowered}
use Rattle.index.specs.Layout.{nowhere, SameRows}
use Rattle.index.specs.Table.{table_of}

-- tests that agree below n
any_same : (p q : ℕ → Bool) (n : ℕ) → ((i : ℕ) → i < n → p i ≡ q i) → any p n ≡ any q n
unfolding any
any_same p q zero h = refl
any_same p q (suc n) h = rw (h n (omega arith), any_same p q n (λ i lt. h i (omega arith)))

module _ (x y : List ℕ) where
  shorter : {n : ℕ} → SameRows (suc n) x y → SameRows n x y
  shorter s i lt = s i (omega arith)

  -- the rows kept, and their number
  pub kept_same : (t n : ℕ) → SameRows n x y → kept t x n ≡ kept t y n
  unfolding kept
  kept_same t zero s = refl
  kept_same t (suc n) s = rw ((s n (omega arith)).0, (s n (omega arith)).1, kept_same t n (shorter s))

  pub kept_rows_same : (t n : ℕ) → SameRows n x y → kept_rows t x n ≡ kept_rows t y n
  unfolding kept_rows
  kept_rows_same t zero s = refl
  kept_rows_same t (suc n) s = rw ((s n (omega arith)).0, kept_rows_same t n (shorter s))

  -- the edges held, those out of a vertex, and their paths
  pub holds_same : (n : ℕ) → SameRows n x y → (a b : ℕ) → holds x n a b ≡ holds y n a b
  unfolding holds
  holds_same n s a b = any_same _ _ n (λ i lt. rw ((s i lt).0, (s i lt).1))

  pub out_same : (n : ℕ) → SameRows n x y → (a : ℕ) → leads_out_of x n a ≡ leads_out_of y n a
  unfolding leads_out_of
  out_same n s a = any_same _ _ n (λ i lt. rw (s i lt).0)

  pub reaches_same : (n : ℕ) → SameRows n x y → (a b : ℕ) → reaches x n a b ≡ reaches y n a b
  unfolding reaches
  reaches_same zero s a b = refl
  reaches_same (suc n) s a b =
      let same : (c d : ℕ) → reaches x n c d ≡ reaches y n c d = reaches_same n (shorter s) in
      rw ((s n (omega arith)).0, (s n (omega arith)).1, same a b, same a (source y n), same (target y n) b)

  -- the in-counts that are lowered
  pub lowered_same : (t : ℕ) (v : List ℕ) (n : ℕ) → SameRows n x y → lowered t x v n ≡ lowered t y v n
  unfolding lowered lowered_row
  lowered_same t v zero s = refl
  lowered_same t v (suc n) s = rw ((s n (omega arith)).0, (s n (omega arith)).1, lowered_same t v n (shorter s))

  -- the edge table that either stands for
  pub table_of_same : (used peak : ℕ) (e : List ℕ) → SameRows used x y → table_of x used peak e ≡ table_of y used peak e
  unfolding table_of
  table_of_same used peak e s = rw (kept_same nowhere used s, kept_rows_same nowhere used s)
