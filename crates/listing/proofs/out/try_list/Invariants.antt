-- What is written and what is still to come make the listing. Each step is counted, and there are 8,192 at most.
use Prim.Native.Nat.{◌-◌}
use Rattle.graph.specs.Tables.{lent}
use Rattle.listing.proofs.ListingLaws.{Going}
use Rattle.listing.proofs.out.try_list.Given as goal

abbrev pub invariant-loop-step : goal.invariant-loop-step
invariant-loop-step g l =
    Going l.edition l.program (g.W.Write.contents l.fn.out) (g.W.Write.contents l.out) (lent l.vertices l.edges l.tally)

abbrev pub decreases-loop-step : goal.decreases-loop-step
decreases-loop-step g l = 8192 - l.tally.steps
