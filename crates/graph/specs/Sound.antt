-- "12 tally over the used rows, a made vertex's status outside 1 to 4, or a held edge's end not a made vertex"
use Rattle.std.specs.Prelude.{ℕ, Bool, List, leb, ltb}
use Rattle.graph.specs.Tests.{both, every}
use Rattle.graph.specs.Tables.{Lent, NEW, FINISHED, vertex_rows, edge_rows, status, source, target}

unfoldable pub tally_fits : List ℕ → List ℕ → ℕ → ℕ → Bool
tally_fits v e made held = both (leb made (vertex_rows v)) (leb held (edge_rows e))

unfoldable pub status_known : List ℕ → ℕ → Bool
status_known v k = both (leb NEW (status v k)) (leb (status v k) FINISHED)

unfoldable pub statuses_known : List ℕ → ℕ → Bool
statuses_known v made = every (status_known v) made

unfoldable pub ends_made : List ℕ → ℕ → ℕ → Bool
ends_made e made i = both (ltb (source e i) made) (ltb (target e i) made)

unfoldable pub edges_made : List ℕ → ℕ → ℕ → Bool
edges_made e made held = every (ends_made e made) held

-- refusal 12 is due where this fails; the steps are looked at by a step or a run only
unfoldable pub sound : Lent → Bool
sound s =
    both (tally_fits s.vertices s.edges s.made s.held)
    (both (statuses_known s.vertices s.made) (edges_made s.edges s.made s.held))
