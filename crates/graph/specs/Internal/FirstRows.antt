-- The rows at the front of a table, each as an array: this serves the proof of the code, and nobody has to believe it.
use Rattle.std.specs.Prelude.{ℕ, ◌+◌, ◌*◌, ◌<◌, ◌≡◌, List, [], length, get_or}

-- the first n rows of so many words
pub record FirstRows (words : ℕ) (table : List ℕ) (n : ℕ) (rows : List (List ℕ)) : Type 0 where
  pub count : length rows ≡ n
  pub word : (i w : ℕ) → i < n → w < words → get_or (get_or rows i []) w 0 ≡ get_or table (words * i + w) 0
