-- The theorem, as it is proved.
use Rattle.chains.proofs.Examples.{evaluated}
use Rattle.chains.proofs.laws.examples_come_true.Goals as goal

pub returns : goal.returns
returns c = evaluated
