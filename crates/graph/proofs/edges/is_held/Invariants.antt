-- None of the rows gone over is the edge.
use mathlib.Core.Path.{◌≡◌}
use mathlib.Core.Bool.{false}
use Rattle.graph.specs.Paths.{holds}
use Rattle.graph.proofs.edges.is_held.Given as goal

abbrev pub invariant-loop-row : goal.invariant-loop-row
invariant-loop-row l = holds l.edges l.row-index l.source l.target ≡ false
