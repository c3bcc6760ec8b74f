-- "Loading clears the used rows and the tally, then sets vertex 0 (released, place 0, scope 1), vertex 1 (released, place of the last
-- byte, scope 1) and the edge 0 to 1." That is the one edge into vertex 1, whose ninth word is "the number of edges into it" (note 6).
use Rattle.std.specs.Prelude.{ℕ, ◌-◌, ◌*◌, cond, List, ltb, length}
use Rattle.graph.specs.Tables.{Lent, RELEASED, vertex_words, edge_words, place_word, scope_word, in_count_word, vertex_rows, edge_rows, set_status, set_vertex_word, clear}
use Rattle.graph.specs.Commands.{appended}
use Rattle.graph.specs.Answers.{Outcome}
use Rattle.program.specs.Encodings as needs
use Rattle.program.specs.declared.Edition.{Edition}
use Rattle.program.specs.Reader.{Reading, program, refusal, reading}
use Rattle.refusal.specs.Refusals.{too_few_vertex_rows, too_few_edge_rows}
use Rattle.machine.specs.Answers.{loaded, refuse_loading, LoadingSaid}

-- a vertex as loading sets it
abbrev pub placed : List ℕ → ℕ → ℕ → List ℕ
placed v k place = set_vertex_word (set_vertex_word (set_status v k RELEASED) k place_word place) k scope_word 1

unfoldable pub loaded_tables : List ℕ → Lent → Lent
loaded_tables bytes s =
    record {
      vertices =
          set_vertex_word (placed (placed (clear s.vertices 0 (vertex_words * vertex_rows s.vertices)) 0 0) 1 (length bytes - 1)) 1 in_count_word 1;
      edges = appended (clear s.edges 0 (edge_words * edge_rows s.edges)) 0 0 1;
      made = 2;
      held = 1;
      steps = 0;
    }

-- "Load: 1; the first of 2 to 7 by place, ..; 8; 10; 11." "V and the commands of a fork are counted by the edition" (note 10).
unfoldable pub load_read : Edition → List ℕ → Lent → Reading → Outcome LoadingSaid
load_read ed bytes s (refusal n p) = refuse_loading s n p
load_read ed bytes s (program b) =
    cond (ltb (vertex_rows s.vertices) (needs.vertices_made ed b)) (refuse_loading s too_few_vertex_rows 0)
    (cond (ltb (edge_rows s.edges) (needs.edge_rows_needed ed b)) (refuse_loading s too_few_edge_rows 0)
    (record { answer = loaded; after = loaded_tables bytes s }))

unfoldable pub load : Edition → List ℕ → Lent → Outcome LoadingSaid
load ed bytes s = load_read ed bytes s (reading ed bytes)
