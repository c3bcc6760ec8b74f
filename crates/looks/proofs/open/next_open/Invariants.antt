-- Before the turn of a vertex none from `from` on is open below it.
use Prim.Native.Nat.{◌≤◌}
use Rattle.looks.proofs.OpenLaws.{NoneOpen}
use Rattle.looks.proofs.open.next_open.Given as goal

abbrev pub invariant-loop-vertex : goal.invariant-loop-vertex
invariant-loop-vertex l = (l.from ≤ l.vertex) × NoneOpen l.vertices l.busy l.shut l.from l.vertex
