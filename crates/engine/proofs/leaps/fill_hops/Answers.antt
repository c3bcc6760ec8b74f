use native.Mathlib.Omega.{arith}
use lib.ListN.{length-set}
use Rattle.engine.proofs.LeapLaws.{first_more}
use Rattle.engine.proofs.leaps.fill_hops.Goals as goal

pub loop-v-preserved : goal.loop-v-preserved
loop-v-preserved c =
    let inv = c.loop-v.invariant in
    let now = c.loop-v.leaps in
    (omega arith, simp length-set inv.1, first_more _ _ now c.loop-v.v _ (omega arith) inv.2 c.hop.ensures)
