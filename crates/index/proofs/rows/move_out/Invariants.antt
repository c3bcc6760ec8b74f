-- In each turn one row out of the vertex is moved; with the last of them the list is handed over.
use Rattle.index.proofs.OutLaws.{OutOf}
use Rattle.index.proofs.MoveLaws.{Moving}
use Rattle.index.proofs.rows.move_out.Given as goal

abbrev pub invariant-loop-left : goal.invariant-loop-left
invariant-loop-left l = OutOf l.initial.index l.used l.from l.left × Moving l.from l.to l.initial.index l.used l.index l.left

abbrev pub decreases-loop-left : goal.decreases-loop-left
decreases-loop-left l = l.left
