-- Of the rows out of the source those that were followed do not lead to the target.
use mathlib.Core.Path.{◌≡◌}
use Rattle.graph.specs.Paths.{holds}
use Rattle.index.proofs.OutLaws.{OutOf}
use Rattle.index.proofs.rows.is_held.Given as goal

abbrev pub invariant-loop-left : goal.invariant-loop-left
invariant-loop-left l = OutOf l.index l.used l.source l.left × (holds l.index l.used l.source l.target ≡ holds l.index l.left l.source l.target)

abbrev pub decreases-loop-left : goal.decreases-loop-left
decreases-loop-left l = l.left
