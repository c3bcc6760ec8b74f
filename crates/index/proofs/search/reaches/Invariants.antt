-- `reaches` meets its contract. Each turn follows one row into `to`, from the last to the first.
use Rattle.index.proofs.SearchLaws.{Followed}
use Rattle.index.proofs.search.reaches.Given as goal

abbrev pub invariant-loop-left : goal.invariant-loop-left
invariant-loop-left l = Followed l.index l.used l.from l.to l.left

abbrev pub decreases-loop-left : goal.decreases-loop-left
decreases-loop-left l = l.left
