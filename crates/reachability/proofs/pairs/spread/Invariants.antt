-- Whatever row a turn takes, what has a label afterwards is joined to what had it.
use Prim.Native.Nat.{◌≤◌}
use mathlib.Core.Path.{◌≡◌}
use lib.ListN.{length}
use Rattle.reachability.specs.Marks.{Spread}
use Rattle.reachability.proofs.pairs.spread.Given as goal

abbrev pub invariant-loop-row : goal.invariant-loop-row
invariant-loop-row l = (l.row-index-end ≡ length l.rows) × (l.row-index ≤ l.row-index-end) × Spread l.index l.used l.initial.labels l.labels
