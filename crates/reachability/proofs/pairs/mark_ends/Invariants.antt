-- After i turns the first i pairs have their bits.
use Prim.Native.Nat.{◌≤◌}
use mathlib.Core.Path.{◌≡◌}
use lib.ListN.{length}
use Rattle.reachability.specs.Marks.{Marked}
use Rattle.reachability.proofs.pairs.mark_ends.Given as goal

abbrev pub invariant-loop-i : goal.invariant-loop-i
invariant-loop-i l = (l.i-end ≡ length l.ends) × (l.i ≤ l.i-end) × Marked l.ends l.i l.marks
