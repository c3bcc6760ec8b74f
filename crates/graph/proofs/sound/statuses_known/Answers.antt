use native.Mathlib.Omega.{arith}
use Prim.Native.Nat.{◌<◌}
use Rattle.graph.proofs.SoundChecks.{statuses_none, statuses_more}
use Rattle.graph.proofs.sound.statuses_known.Goals as goal

pub loop-row-init : goal.loop-row-init
loop-row-init c = statuses_none _

pub loop-row-preserved : goal.loop-row-preserved
loop-row-preserved c =
    let rows = c.first_rows-row-items.ensures in
    let lt : c.loop-row.row-index < c.args.made = omega (arith, rows.count, c.loop-row-test.true) in
    rw (rows.word c.loop-row.row-index 0 lt (omega arith)) (statuses_more _ _ c.loop-row.invariant)
