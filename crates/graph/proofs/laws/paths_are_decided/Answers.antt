-- The theorems, as they are proved.
use Rattle.graph.proofs.PathLaws as PathLaws
use Rattle.graph.proofs.Demand2 as Demand2
use Rattle.graph.proofs.laws.paths_are_decided.Goals as goal

pub returns-clause-reaches : goal.returns-clause-reaches
returns-clause-reaches c = PathLaws.reaches_decides

pub returns-clause-transfer : goal.returns-clause-transfer
returns-clause-transfer c = Demand2.transfer_test
