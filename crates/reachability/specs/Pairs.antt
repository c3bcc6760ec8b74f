-- Pairs of vertices, a start and a goal each, and what is told of them at once.
use Rattle.std.specs.Prelude.{ℕ, ◌*◌, ◌<◌, ◌≡◌, false, List, length, get_or}
use Rattle.graph.specs.Tables.{usable_limit}
use Rattle.graph.specs.Paths.{holds}
use Rattle.index.specs.Asking.{Joined as IsJoined}
use Rattle.reachability.specs.declared.pairs.Telling.{Telling}
use Rattle.reachability.specs.declared.pairs.Telling.TheVariants.{Nothing, Joined}

-- there is a bit of a word for each pair
abbrev pub pair_limit : ℕ
pair_limit = 64

-- an order names each row once, and again those by which a vertex was found
abbrev pub order_words : ℕ
order_words = 3 * usable_limit

-- each number is that of a used row
abbrev pub RowsOf : ℕ → List ℕ → Type 0
RowsOf used rows = (k : ℕ) → k < length rows → get_or rows k 0 < used

-- each number is that of a usable vertex
abbrev pub Usable : List ℕ → Type 0
Usable l = (i : ℕ) → i < length l → get_or l i 0 < usable_limit

-- what is told of each pair is so
pub record Told (x : List ℕ) (used : ℕ) (starts goals : List ℕ) (told : List Telling) : Type 0 where
  pub long : length told ≡ length starts
  pub free : (i : ℕ) → i < length starts → (get_or told i Nothing ≡ Nothing → ⊥) → holds x used (get_or goals i 0) (get_or starts i 0) ≡ false
  pub joins : (i : ℕ) → i < length starts → get_or told i Nothing ≡ Joined → IsJoined x used (get_or starts i 0) (get_or goals i 0)
