-- After i turns those of the first i rows that were not dropped are written.
use Prim.Native.Nat.{◌≤◌}
use mathlib.Core.Path.{◌≡◌}
use lib.ListN.{length}
use Rattle.index.specs.Table.{live_rows}
use Rattle.index.proofs.HandLaws.{written}
use Rattle.index.proofs.rows.gather_live.Given as goal

abbrev pub invariant-loop-i : goal.invariant-loop-i
invariant-loop-i l =
    (l.i ≤ l.used) × (length l.edges ≡ length l.initial.edges) × ((l.live ≡ live_rows l.index l.i) × (l.edges ≡ written l.index l.initial.edges l.i))
