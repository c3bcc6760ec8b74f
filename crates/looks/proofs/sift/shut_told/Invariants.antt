-- Before turn i those of the first i are shut of whom it is told.
use Prim.Native.Nat.{◌≤◌}
use mathlib.Core.Path.{◌≡◌}
use lib.ListN.{length}
use Rattle.reachability.specs.Pairs.{pair_limit}
use Rattle.looks.specs.Looking.{shut_told}
use Rattle.looks.proofs.sift.shut_told.Given as goal

abbrev pub invariant-loop-i : goal.invariant-loop-i
invariant-loop-i l = (l.i ≤ pair_limit) × (length l.shut ≡ length l.initial.shut) × (l.shut ≡ shut_told l.full l.told l.kinds l.base l.initial.shut l.i)
