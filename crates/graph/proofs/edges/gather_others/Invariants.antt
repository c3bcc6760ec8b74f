-- After the rows up to i the first i rows are gathered, and the in-counts lowered for those dropped.
use Prim.Native.Nat.{◌≤◌}
use mathlib.Core.Path.{◌≡◌}
use Rattle.graph.specs.Commands.{kept_rows, lowered}
use Rattle.graph.specs.Internal.Gather.{Gathered}
use Rattle.graph.proofs.edges.gather_others.Given as goal

abbrev pub invariant-loop-i : goal.invariant-loop-i
invariant-loop-i l =
    (l.i ≤ l.held) × (((l.kept ≡ kept_rows l.vertex l.initial.edges l.i) × Gathered l.vertex l.initial.edges l.edges l.i) × (l.vertices ≡ lowered l.vertex l.initial.edges l.initial.vertices l.i))
