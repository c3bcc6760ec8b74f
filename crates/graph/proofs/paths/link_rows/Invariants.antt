-- `link_rows` meets its contract. After i turns the first i rows are linked: a turn is `link_more`.
use Prim.Native.Nat.{◌≤◌}
use mathlib.Core.Path.{◌≡◌}
use lib.ListN.{length}
use Rattle.graph.specs.Internal.Search.{Linked}
use Rattle.graph.proofs.paths.link_rows.Given as goal

abbrev pub invariant-loop-i : goal.invariant-loop-i
invariant-loop-i l =
    (l.i-end ≡ length l.initial.next) × (l.i ≤ l.i-end) × (length l.next ≡ l.i-end) × Linked l.edges l.i l.first l.next
