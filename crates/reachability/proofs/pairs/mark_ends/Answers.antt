use Prim.Native.Nat.{◌<◌}
use mathlib.Core.Path.{refl}
use native.Mathlib.Omega.{arith}
use lib.ListN.{get_or}
use Rattle.graph.specs.Tables.{usable_limit}
use Rattle.reachability.proofs.MarkLaws.{marked_none, marked_more}
use Rattle.reachability.proofs.pairs.mark_ends.Goals as goal

pub loop-i-preserved : goal.loop-i-preserved
loop-i-preserved c =
    let usable : get_or c.args.ends.now c.loop-i.i 0 < usable_limit =
    c.requires.1 c.loop-i.i (omega arith) in
    (refl, omega arith, marked_more _ _ _ c.loop-i.invariant.2 (omega arith) (omega (arith, usable)))

pub loop-i-init : goal.loop-i-init
loop-i-init c = (refl, omega arith, marked_none _ _ c.requires.2)
