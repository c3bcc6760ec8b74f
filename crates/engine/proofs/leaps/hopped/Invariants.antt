-- After some turns the vertex at hand is where so many turns of the table lead.
use Prim.Native.Nat.{◌<◌, ◌≤◌}
use Rattle.engine.specs.Internal.Leaping.{LeadsTo}
use Rattle.engine.proofs.leaps.hopped.Given as goal

abbrev pub invariant-loop : goal.invariant-loop
invariant-loop l = (l.counter ≤ l.turns) × (l.at < l.made) × LeadsTo l.made l.leaps l.from l.vertex l.counter l.at
