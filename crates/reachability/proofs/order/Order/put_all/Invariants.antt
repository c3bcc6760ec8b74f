-- The order goes on at each turn.
use Rattle.reachability.specs.Making.{GoesOn}
use Rattle.reachability.proofs.order.Order.put_all.Given as goal

abbrev pub invariant-loop-vertex : goal.invariant-loop-vertex
invariant-loop-vertex l = GoesOn l.initial.self l.self
