-- The sum of one word more.
use Prim.Native.Nat.{ℕ, ◌+◌, ◌*◌, ◌%◌}
use mathlib.Core.Path.{◌≡◌, refl, ap, ◌∙◌}
use mathlib.Core.List.{List}
use native.Mathlib.Numerals.{add-one}
use lib.ListN.{length, get_or}
use Rattle.cases.specs.Sums.{sum_of, table_sum}

pub sum_none : (l : List ℕ) → 0 ≡ sum_of l 0
unfolding sum_of
sum_none l = refl

pub sum_more : (l : List ℕ) (n : ℕ) {total : ℕ} → total ≡ sum_of l n → (total * 31 + get_or l n 0 + 1) % 1000003 ≡ sum_of l (n + 1)
unfolding sum_of
sum_more l n h = rw (add-one n, h) refl

pub sum_all : (l : List ℕ) (i end : ℕ) {total : ℕ} → total ≡ sum_of l i → i ≡ end → end ≡ length l → total ≡ table_sum l
sum_all l i end h here is = h ∙ ap (sum_of l) (here ∙ is)
