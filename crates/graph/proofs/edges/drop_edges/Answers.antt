-- Gathering keeps the other edges and lowers the in-counts, and clearing the freed rows makes the table that a stop leaves.
use mathlib.Core.Path.{◌∙◌}
use Rattle.graph.proofs.EdgeLoops.{gathered_cleared}
use Rattle.graph.proofs.edges.drop_edges.Goals as goal

pub returns : goal.returns
returns c =
    let gathered = c.gather_others-kept.ensures in (
      gathered.0,
      c.clear.ensures
          ∙ gathered_cleared _ _ _
          c.requires.0
          gathered.0
          gathered.1,
      gathered.2,
    )
