use native.Mathlib.Omega.{arith}
use Rattle.reachability.proofs.MarkLaws.{finds_more}
use Rattle.reachability.proofs.pairs.held_pairs.Goals as goal

pub loop-i-preserved : goal.loop-i-preserved
loop-i-preserved c =
    (omega arith, finds_more c.args.index.now c.args.wanted.now c.args.labels.now c.loop-i.i c.loop-i.held c.loop-i.invariant.1)
