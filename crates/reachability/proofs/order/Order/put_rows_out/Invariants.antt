-- The order goes on at each turn.
use Rattle.reachability.specs.Making.{GoesOn}
use Rattle.reachability.proofs.order.Order.put_rows_out.Given as goal

abbrev pub invariant-loop : goal.invariant-loop
invariant-loop l = GoesOn l.initial.self l.self
