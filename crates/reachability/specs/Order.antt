-- An order of the rows in the making: its first rows are used ones.
use Rattle.std.specs.Prelude.{ℕ, ◌<◌, ◌≤◌, ◌≡◌, List, length, get_or}
use Rattle.reachability.specs.Pairs.{order_words}

-- the first n words are numbers of used rows
pub record Ordered (used : ℕ) (rows : List ℕ) (n : ℕ) : Type 0 where
  pub long : length rows ≡ order_words
  pub few : n ≤ order_words
  pub used_rows : (k : ℕ) → k < n → get_or rows k 0 < used
