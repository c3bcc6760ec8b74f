use Prim.Native.Nat.{ℕ, ◌≤◌, ◌<◌}
use mathlib.Core.Path.{refl}
use native.Mathlib.Omega.{arith}
use lib.ListN.{get_or}
use Rattle.graph.specs.Tables.{usable_limit, source, target}
use Rattle.index.specs.Layout.{row_limit, nowhere}
use Rattle.reachability.proofs.MarkLaws.{spread_more}
use Rattle.reachability.proofs.pairs.spread.Goals as goal

pub loop-row-preserved : goal.loop-row-preserved
loop-row-preserved c =
    let row : ℕ =
    get_or c.args.rows.now c.loop-row.row-index 0 in
    let used : (row < c.args.used) × (c.args.used ≤ row_limit) =
    (c.requires.1 c.loop-row.row-index (omega arith), c.requires.0.few) in
    let usable : (source c.args.index.now row ≤ nowhere) × (target c.args.index.now row < usable_limit) =
    (c.requires.0.sources row used.0, c.requires.0.targets row used.0) in
    (refl, omega arith, spread_more _ _ _ _ _ c.loop-row.invariant.2 used.0 (omega (arith, usable)))
