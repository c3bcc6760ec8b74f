-- Before turn v the vertices below v have their word in the table behind, and what is before that table is as it was.
use Prim.Native.Nat.{◌+◌, ◌≤◌}
use mathlib.Core.Path.{◌≡◌}
use lib.ListN.{length}
use Rattle.graph.specs.Tables.{usable_limit}
use Rattle.engine.specs.Internal.Leaping.{SameBelow, EightTold}
use Rattle.engine.proofs.leaps.fill_eightfold.Given as goal

abbrev pub invariant-loop-v : goal.invariant-loop-v
invariant-loop-v l =
    (l.v ≤ l.made) × (length l.leaps ≡ length l.initial.leaps) × SameBelow (l.from + usable_limit) l.initial.leaps l.leaps × EightTold l.made l.from l.initial.leaps l.leaps l.v
