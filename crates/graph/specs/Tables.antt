-- "Lent tables of 32-bit words hold the state." A table is the list of its words, of any length.
use Rattle.std.specs.Prelude.{ℕ, zero, suc, ◌+◌, ◌*◌, ◌/◌, min, List, length, get_or, set}
use Rattle.graph.specs.declared.Tally.{Tally}

-- "A vertex has a status: 1 new, 2 released, 3 executing, 4 finished."
abbrev pub NEW : ℕ
NEW = 1

abbrev pub RELEASED : ℕ
RELEASED = 2

abbrev pub EXECUTING : ℕ
EXECUTING = 3

abbrev pub FINISHED : ℕ
FINISHED = 4

-- "Vertex row, seven words: status; place; scope; phase; three vertices that this item made"; "Vertex rows gain an eighth word" (note 5);
-- "Give each vertex row a ninth word" (note 6)
abbrev pub vertex_words : ℕ
vertex_words = 9

abbrev pub status_word : ℕ
status_word = 0

abbrev pub place_word : ℕ
place_word = 1

abbrev pub scope_word : ℕ
scope_word = 2

abbrev pub phase_word : ℕ
phase_word = 3

-- the first of the three, the others follow it
abbrev pub made_word : ℕ
made_word = 4

-- "the latest open future, copied from the maker by newTd and set to t in the vertex that did the future, at that item's last command; 0
-- is none" (note 5)
abbrev pub future_word : ℕ
future_word = 7

-- "the number of edges into it" (note 6)
abbrev pub in_count_word : ℕ
in_count_word = 8

-- "its largest number": that of a 32-bit word
abbrev pub largest_word : ℕ
largest_word = 4294967295

-- "Edge row, two words: source, target."
abbrev pub edge_words : ℕ
edge_words = 2

abbrev pub source_word : ℕ
source_word = 0

abbrev pub target_word : ℕ
target_word = 1

-- "Only full rows among the first 1,024 of each table are used"
abbrev pub usable_limit : ℕ
usable_limit = 1024

-- the words of a table with all these rows
abbrev pub vertex_table : ℕ
vertex_table = vertex_words * usable_limit

abbrev pub edge_table : ℕ
edge_table = edge_words * usable_limit

abbrev pub vertex_rows : List ℕ → ℕ
vertex_rows v = min usable_limit (length v / vertex_words)

abbrev pub edge_rows : List ℕ → ℕ
edge_rows e = min usable_limit (length e / edge_words)

-- word w of the row of vertex k
abbrev pub vertex_word : List ℕ → ℕ → ℕ → ℕ
vertex_word v k w = get_or v (vertex_words * k + w) 0

abbrev pub set_vertex_word : List ℕ → ℕ → ℕ → ℕ → List ℕ
set_vertex_word v k w x = set v (vertex_words * k + w) x

abbrev pub status : List ℕ → ℕ → ℕ
status v k = vertex_word v k status_word

abbrev pub set_status : List ℕ → ℕ → ℕ → List ℕ
set_status v k x = set_vertex_word v k status_word x

-- the word for the number of edges into vertex k
abbrev pub in_count : List ℕ → ℕ → ℕ
in_count v k = vertex_word v k in_count_word

-- word w of edge row i
abbrev pub edge_word : List ℕ → ℕ → ℕ → ℕ
edge_word e i w = get_or e (edge_words * i + w) 0

abbrev pub set_edge_word : List ℕ → ℕ → ℕ → ℕ → List ℕ
set_edge_word e i w x = set e (edge_words * i + w) x

abbrev pub source : List ℕ → ℕ → ℕ
source e i = edge_word e i source_word

abbrev pub target : List ℕ → ℕ → ℕ
target e i = edge_word e i target_word

-- the table with n words from `from` on cleared
unfoldable pub clear : List ℕ → ℕ → ℕ → List ℕ
clear l from zero = l
clear l from (suc n) = set (clear l from n) (from + n) 0

-- All that is lent: both tables, and "the tally: vertices made, edges held, steps".
pub record Lent : Type 0 where
  pub vertices : List ℕ
  pub edges : List ℕ
  pub made : ℕ
  pub held : ℕ
  pub steps : ℕ

abbrev pub lent : List ℕ → List ℕ → Tally → Lent
lent v e t = record { vertices = v; edges = e; made = t.made; held = t.held; steps = t.steps }
