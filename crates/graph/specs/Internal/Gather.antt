-- What a stop needs and leaves at the held edges: it serves the proof of the code, and nobody has to believe it.
use Rattle.std.specs.Prelude.{ℕ, ◌+◌, ◌*◌, ◌<◌, ◌≤◌, ◌≡◌, false, List, length, take, drop}
use Rattle.graph.specs.Tables.{vertex_words, edge_words, source, target}
use Rattle.graph.specs.Paths.{leads_out_of}
use Rattle.graph.specs.Commands.{kept, kept_rows}

-- v has a row for the target of each of the first n edges
abbrev pub TargetsFit : List ℕ → List ℕ → ℕ → Type 0
TargetsFit v e n = (i : ℕ) → i < n → vertex_words * target e i + vertex_words ≤ length v

-- r is the first of the first n rows of e that is out of t, or n where none is
pub record FirstOutOf (t : ℕ) (e : List ℕ) (n r : ℕ) : Type 0 where
  pub within : r ≤ n
  pub none_before : leads_out_of e r t ≡ false
  pub there : r < n → source e r ≡ t

-- e' has the rows of the first n of e that are not out of t at its front, and is e from row n on
pub record Gathered (t : ℕ) (e e' : List ℕ) (n : ℕ) : Type 0 where
  pub front : take (edge_words * kept_rows t e n) e' ≡ kept t e n
  pub rest : drop (edge_words * n) e' ≡ drop (edge_words * n) e
  pub same_length : length e' ≡ length e
  pub within : kept_rows t e n ≤ n
