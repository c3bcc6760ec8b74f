use native.Mathlib.Omega.{arith}
use Rattle.engine.proofs.LeapLaws.{leads_start, leads_more}
use Rattle.engine.proofs.leaps.hopped.Goals as goal

pub loop-preserved : goal.loop-preserved
loop-preserved c =
    let inv = c.loop.invariant in
    (omega arith, c.requires.0.1 _ inv.1, leads_more _ c.args.leaps.now c.args.from _ _ _ inv.1 inv.2)

pub loop-init : goal.loop-init
loop-init c = (omega arith, c.requires.1, leads_start _ c.args.leaps.now c.args.from _)
