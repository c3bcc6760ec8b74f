-- The order goes on at each turn.
use Rattle.reachability.specs.Making.{GoesOn}
use Rattle.reachability.proofs.order.Order.gather.Given as goal

abbrev pub invariant-loop-row : goal.invariant-loop-row
invariant-loop-row l = GoesOn l.initial.self l.self
