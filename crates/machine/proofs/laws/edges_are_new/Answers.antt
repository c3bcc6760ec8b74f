-- The theorem, as it is proved.
use Rattle.machine.proofs.ReachedLaws.{edge_is_new}
use Rattle.machine.proofs.laws.edges_are_new.Goals as goal

pub returns : goal.returns
returns c ed bytes t s₀ answers s = edge_is_new ed bytes t
