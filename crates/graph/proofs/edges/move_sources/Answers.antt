use native.Mathlib.Omega.{arith}
use Rattle.graph.proofs.EdgeLoops.{moved_none, moved_skips, moved_sets}
use Rattle.graph.proofs.edges.move_sources.Goals as goal

pub loop-i-init : goal.loop-i-init
loop-i-init c = (omega arith, moved_none _ _ _)

pub loop-i-preserved-then-edges-i : goal.loop-i-preserved-then-edges-i
loop-i-preserved-then-edges-i c = (omega arith, moved_skips _ _ _ _ c.loop-i.invariant.1 c.if-edges-i.true)

pub loop-i-preserved : goal.loop-i-preserved
loop-i-preserved c = (omega arith, moved_sets _ _ _ _ c.loop-i.invariant.1 c.if-edges-i.false)
