-- What a change that a host makes leaves of the tables and of the tally, and how it is shown.
use Rattle.std.specs.Prelude.{ℕ, ◌+◌, ◌*◌, List, ◌++◌, slice_set, codes, decimal}
use Rattle.graph.specs.declared.Tally.{Tally}
use Rattle.graph.specs.Tables.{vertex_words, edge_words}
use Rattle.cases.specs.declared.changes.Change.{Change}
use Rattle.cases.specs.declared.changes.Change.TheVariants as of_change

abbrev pub vertices_after : Change → List ℕ → List ℕ
vertices_after (of_change.Vertex row word to) vertices = slice_set vertices (vertex_words * row + word) to
vertices_after (of_change.Edge row word to) vertices = vertices
vertices_after (of_change.Tally t) vertices = vertices

abbrev pub edges_after : Change → List ℕ → List ℕ
edges_after (of_change.Vertex row word to) edges = edges
edges_after (of_change.Edge row word to) edges = slice_set edges (edge_words * row + word) to
edges_after (of_change.Tally t) edges = edges

abbrev pub tally_after : Change → Tally → Tally
tally_after (of_change.Vertex row word to) tally = tally
tally_after (of_change.Edge row word to) tally = tally
tally_after (of_change.Tally t) tally = t

-- three numbers
abbrev pub three : ℕ → ℕ → ℕ → List ℕ
three a b c = decimal a ++ codes " " ++ decimal b ++ codes " " ++ decimal c

abbrev pub change_text : Change → List ℕ
change_text (of_change.Vertex row word to) = codes "vertex " ++ three row word to
change_text (of_change.Edge row word to) = codes "edge " ++ three row word to
change_text (of_change.Tally t) = codes "tally " ++ three t.made t.held t.steps
