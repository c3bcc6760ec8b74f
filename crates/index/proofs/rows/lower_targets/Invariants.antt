-- In each turn one row out of the vertex is taken off its target's in-count.
use Rattle.index.proofs.OutLaws.{OutOf}
use Rattle.index.proofs.LowerLaws.{Lowering}
use Rattle.index.proofs.rows.lower_targets.Given as goal

abbrev pub invariant-loop-left : goal.invariant-loop-left
invariant-loop-left l =
    OutOf l.index l.used l.from l.left × Lowering l.index l.used l.from l.initial.vertices l.vertices l.dropped l.lowest l.highest l.left

abbrev pub decreases-loop-left : goal.decreases-loop-left
decreases-loop-left l = l.left
