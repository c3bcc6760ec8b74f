-- After i turns the first i rows have been looked at.
use Prim.Native.Nat.{◌≤◌}
use Rattle.reachability.specs.Marks.{Finds}
use Rattle.reachability.proofs.pairs.held_pairs.Given as goal

abbrev pub invariant-loop-i : goal.invariant-loop-i
invariant-loop-i l = (l.i ≤ l.used) × Finds l.index l.i l.wanted l.labels l.held
