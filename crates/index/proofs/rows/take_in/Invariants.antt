-- After i turns the first i edges are taken in.
use Prim.Native.Nat.{◌≤◌}
use Rattle.index.specs.Layout.{Indexed, SameRows}
use Rattle.index.proofs.rows.take_in.Given as goal

abbrev pub invariant-loop-i : goal.invariant-loop-i
invariant-loop-i l = (l.i ≤ l.held) × Indexed l.index l.i × SameRows l.i l.index l.edges
