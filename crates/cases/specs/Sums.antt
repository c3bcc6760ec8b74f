-- A sum over a table in which each word counts by its place, so that a changed word shows.
use Rattle.std.specs.Prelude.{ℕ, zero, suc, ◌+◌, ◌*◌, ◌%◌, List, length, get_or}

-- of the first n words
unfoldable pub sum_of : List ℕ → ℕ → ℕ
sum_of l zero = 0
sum_of l (suc n) = (sum_of l n * 31 + get_or l n 0 + 1) % 1000003

abbrev pub table_sum : List ℕ → ℕ
table_sum l = sum_of l (length l)
