-- Behind the first rows it is known whether their statuses are among the four.
use mathlib.Core.Path.{◌≡◌}
use Rattle.graph.specs.Sound.{statuses_known}
use Rattle.graph.proofs.sound.statuses_known.Given as goal

abbrev pub invariant-loop-row : goal.invariant-loop-row
invariant-loop-row l = l.all_known ≡ statuses_known l.vertices l.row-index
