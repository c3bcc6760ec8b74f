-- After some turns the total is the sum of so many words, below the modulus.
use Rattle.std.proofs.Common.{◌≡◌, ◌<◌}
use Rattle.cases.specs.Sums.{sum_of}
use Rattle.cases.proofs.sum.Given as goal

abbrev pub invariant-loop-word : goal.invariant-loop-word
invariant-loop-word l = (l.total < 1000003) × (l.total ≡ sum_of l.table l.word-index)
