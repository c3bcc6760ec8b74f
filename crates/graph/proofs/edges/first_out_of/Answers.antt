-- The first row that passes the test is out of the vertex, and none before it is.
use Rattle.std.proofs.Common.{ℕ, ◌≡◌, List, get_or, rules, tests}
use Rattle.std.proofs.lemmas.Iterator.{IsFirst-from_position, YieldsList-from_slice}
use Rattle.graph.proofs.EdgeLoops.{first_of_rows}
use Rattle.graph.proofs.edges.first_out_of.Goals as goal

pub returns : goal.returns
returns c =
    let rows = c.first_rows.result.now in
    first_of_rows _ _ _ rows c.first_rows.ensures c.position.result
    (IsFirst-from_position _ _ _ (λ (row : List ℕ). get_or row 0 0 ≡ c.args.vertex) (λ (row : List ℕ). get_or row 0 0 ≡ c.args.vertex → ⊥)
    c.position.ensures.ran
    (YieldsList-from_slice rows cc) (λ x q k. search (rules, tests)) (λ x q k. search (rules, tests)))
    c.unwrap_or.ensures
