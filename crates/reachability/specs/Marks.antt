-- A word of marks for each vertex, with a bit for each pair: what private functions promise one another.
use Rattle.std.specs.Prelude.{ℕ, ◌/◌, ◌%◌, ◌^◌, ◌<◌, ◌≡◌, List, length, get_or, replicate}
use Rattle.graph.specs.Tables.{source, target}
use Rattle.graph.specs.Internal.Search.{search_limit}
use Rattle.index.specs.Asking.{Joined}
use Rattle.reachability.specs.declared.pairs.Telling.{Telling}
use Rattle.reachability.specs.declared.pairs.Telling.TheVariants as told

-- bit i of the word w is set
pub record Has (i w : ℕ) : Type 0 where
  pub set : (w / 2 ^ i) % 2 ≡ 1

-- the word of vertex v
abbrev pub word : List ℕ → ℕ → ℕ
word marks v = get_or marks v 0

-- no vertex is marked
abbrev pub unmarked : List ℕ
unmarked = replicate search_limit 0

-- of the first n pairs each has its bit at its end, and nowhere else
pub record Marked (ends : List ℕ) (n : ℕ) (marks : List ℕ) : Type 0 where
  pub long : length marks ≡ search_limit
  pub at_end : (i : ℕ) → i < n → Has i (word marks (get_or ends i 0))
  pub only : (i v : ℕ) → Has i (word marks v) → get_or ends i 0 ≡ v

-- of the first n rows none leads from where a pair is wanted to where it starts, unless its bit is among the held
abbrev pub Finds : List ℕ → ℕ → List ℕ → List ℕ → ℕ → Type 0
Finds x n wanted labels held =
    (k i : ℕ) → k < n → Has i (word wanted (source x k)) → Has i (word labels (target x k)) → Has i held

-- a vertex with the label i now is joined to one that had it before
pub record Spread (x : List ℕ) (used : ℕ) (before after : List ℕ) : Type 0 where
  pub long : length after ≡ search_limit
  pub from : (i v : ℕ) → Has i (word after v) → (u : ℕ) × Has i (word before u) × Joined x used u v

-- what is told of pair i, where these are the pairs that are held and those whose label its goal has
pub record Says (i held label : ℕ) (said : Telling) : Type 0 where
  pub free : (said ≡ told.Nothing → ⊥) → Has i held → ⊥
  pub reached : said ≡ told.Joined → Has i label
