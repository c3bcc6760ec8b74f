-- The run's own index of its edges: rows like those of an edge table, with the source `nowhere` where an edge was dropped, and beside them
-- for each vertex its last row in and its last row out, and for each row the one before it into the same vertex, and out of it. Rows are
-- counted from 1 in all of these, so that 0 is none.
use Rattle.std.specs.Prelude.{ℕ, ◌+◌, ◌*◌, ◌≤◌, ◌<◌, ◌≡◌, List, length, get_or}
use Rattle.graph.specs.Tables.{edge_words, source_word, target_word, usable_limit, source, target}
use Rattle.graph.specs.Internal.Search.{last_with}

abbrev pub row_limit : ℕ
row_limit = 2 * usable_limit

-- the vertex behind the last usable one, which no row has for its target
abbrev pub nowhere : ℕ
nowhere = usable_limit

-- The rows come first, exactly as an edge table has them, so that what is said of an edge table applies to the index itself. Behind them:
abbrev pub last_in_base : ℕ
last_in_base = edge_words * row_limit

abbrev pub before_in_base : ℕ
before_in_base = last_in_base + usable_limit + 1

abbrev pub last_out_base : ℕ
last_out_base = before_in_base + row_limit

abbrev pub before_out_base : ℕ
before_out_base = last_out_base + usable_limit + 1

abbrev pub index_words : ℕ
index_words = before_out_base + row_limit

-- the last row into v
abbrev pub last_in : List ℕ → ℕ → ℕ
last_in x v = get_or x (last_in_base + v) 0

-- the row before row i into the same vertex
abbrev pub before_in : List ℕ → ℕ → ℕ
before_in x i = get_or x (before_in_base + i) 0

-- the last row out of v
abbrev pub last_out : List ℕ → ℕ → ℕ
last_out x v = get_or x (last_out_base + v) 0

-- the row before row i out of the same vertex
abbrev pub before_out : List ℕ → ℕ → ℕ
before_out x i = get_or x (before_out_base + i) 0

-- x is an index of its first `used` rows
pub record Indexed (x : List ℕ) (used : ℕ) : Type 0 where
  pub long : length x ≡ index_words
  pub few : used ≤ row_limit
  pub sources : (i : ℕ) → i < used → source x i ≤ nowhere
  pub targets : (i : ℕ) → i < used → target x i < usable_limit
  pub ins : (v : ℕ) → v ≤ nowhere → last_in x v ≡ last_with target_word x v used
  pub outs : (v : ℕ) → v < usable_limit → last_out x v ≡ last_with source_word x v used
  pub in_links : (i : ℕ) → i < used → before_in x i ≡ last_with target_word x (target x i) i
  pub out_links : (i : ℕ) → i < used → source x i < usable_limit → before_out x i ≡ last_with source_word x (source x i) i

-- the first n rows of two tables are the same
abbrev pub SameRows : ℕ → List ℕ → List ℕ → Type 0
SameRows n x y = (i : ℕ) → i < n → (source x i ≡ source y i) × (target x i ≡ target y i)
