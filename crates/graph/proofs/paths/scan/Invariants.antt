-- `scan` meets its contract. In each turn the row that is followed is `found` or `seen`, and the next one is below it.
use Prim.Native.Nat.{◌≤◌}
use Rattle.graph.specs.Internal.Search.{Scanned}
use Rattle.graph.proofs.paths.scan.Given as goal

abbrev pub invariant-loop-left : goal.invariant-loop-left
invariant-loop-left l =
    (l.left ≤ l.row) × Scanned l.edges l.row l.distance l.initial.distances l.initial.queue l.tail l.left l.distances l.queue l.end

abbrev pub decreases-loop-left : goal.decreases-loop-left
decreases-loop-left l = l.left
