-- Before turn v the vertices below v have their hop.
use Prim.Native.Nat.{◌≤◌}
use mathlib.Core.Path.{◌≡◌}
use lib.ListN.{length}
use Rattle.engine.specs.Internal.Leaping.{HopsAt}
use Rattle.engine.proofs.leaps.fill_hops.Given as goal

abbrev pub invariant-loop-v : goal.invariant-loop-v
invariant-loop-v l = (l.v ≤ l.made) × (length l.leaps ≡ length l.initial.leaps) × HopsAt l.vertices l.made l.leaps 0 1 l.v
