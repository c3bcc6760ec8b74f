-- `is_nearer` meets its contract: one law for each way through it.
use Rattle.std.proofs.Common.{arith}
use Rattle.chains.proofs.NearestLaws.{at_goal, unmarked_not, farther_not, by_one}
use Rattle.chains.proofs.nearest.is_nearer.Goals as goal

pub returns-then-target-to : goal.returns-then-target-to
returns-then-target-to c = at_goal _ _ _ _ c.if-target-to.true

pub returns-then-near-eq0 : goal.returns-then-near-eq0
returns-then-near-eq0 c =
    elim c.then-near-eq0.branch [
      | goal.then-near-eq0-via-then-near-eq0 w ↦ unmarked_not _ _ _ _ c.if-target-to.false w.if-near-eq0.true
      | goal.then-near-eq0-via-else-near-eq0+then-far-near w ↦ farther_not _ _ _ _ c.if-target-to.false w.if-far-near.true
    ]

pub returns : goal.returns
returns c = by_one _ _ _ _ c.if-target-to.false c.if-near-eq0.false (omega arith)
