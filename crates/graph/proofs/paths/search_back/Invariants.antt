-- `search_back` meets its contract. Each turn looks at one vertex, and `turn` takes the next from the queue. The measure is the number
-- of places of the queue that were not yet come to.
use Prim.Native.Nat.{◌<◌, ◌-◌}
use lib.ListN.{length, get_or}
use Rattle.graph.specs.Internal.Search.{search_limit, Room, Frontier}
use Rattle.graph.proofs.paths.search_back.Given as goal

abbrev pub invariant-loop-distances : goal.invariant-loop-distances
invariant-loop-distances l =
    (l.vertex < search_limit) × Room l.distances l.queue l.tail
    × Frontier l.edges (length l.next) l.to l.vertex l.distance l.head (get_or l.first l.vertex 0) l.distances l.queue l.tail

abbrev pub decreases-loop-distances : goal.decreases-loop-distances
decreases-loop-distances l = search_limit - l.head
