-- The pieces of the format, grouped as the definition groups them.
use Rattle.std.proofs.Common.{rules, append_assoc}
use Rattle.cases.proofs.LeftDisplay.fmt.Goals as goal

pub returns-clause-writes : goal.returns-clause-writes
returns-clause-writes g c = search (rules, append_assoc)
