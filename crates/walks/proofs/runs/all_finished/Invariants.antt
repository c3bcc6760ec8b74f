-- After v turns the first v vertices are finished.
use Prim.Native.Nat.{◌≤◌}
use mathlib.Core.Path.{◌≡◌}
use mathlib.Core.Bool.{true}
use lib.Dec.{eqb}
use Rattle.graph.specs.Tests.{every}
use Rattle.graph.specs.Tables.{status, FINISHED}
use Rattle.walks.proofs.runs.all_finished.Given as goal

abbrev pub invariant-loop-v : goal.invariant-loop-v
invariant-loop-v l = (l.v ≤ l.made) × (every (λ k. eqb (status l.vertices k) FINISHED) l.v ≡ true)
