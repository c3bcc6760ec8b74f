-- Behind the first rows none of them has the end.
use mathlib.Core.Path.{◌≡◌}
use mathlib.Core.Bool.{false}
use lib.Dec.{eqb}
use Rattle.graph.specs.Tests.{any}
use Rattle.graph.specs.Tables.{edge_word}
use Rattle.graph.proofs.edges.leads.Given as goal

abbrev pub invariant-loop-row : goal.invariant-loop-row
invariant-loop-row l = any (λ j. eqb (edge_word l.edges j l.end) l.vertex) l.row-index ≡ false
