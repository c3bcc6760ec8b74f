-- The theorems, as they are proved.
use Rattle.graph.proofs.InCounts as InCounts
use Rattle.graph.proofs.laws.in_counts_are_true.Goals as goal

pub returns-clause-commanded : goal.returns-clause-commanded
returns-clause-commanded c s₀ s = InCounts.commanded_true

pub returns-clause-stays : goal.returns-clause-stays
returns-clause-stays c = InCounts.stays_true

pub returns-clause-starts : goal.returns-clause-starts
returns-clause-starts c s₀ s = InCounts.commanded_start
