-- The theorem, as it is proved.
use Rattle.machine.proofs.Examples.{examples}
use Rattle.machine.proofs.laws.examples_come_true.Goals as goal

pub returns : goal.returns
returns c = examples
