-- The theorem, as it is proved.
use Rattle.machine.proofs.FairOrders as FairOrders
use Rattle.machine.proofs.laws.nothing_waits.Goals as goal

pub returns : goal.returns
returns c ed bytes t s₀ answers s r q jobs_only = FairOrders.nothing_waits ed bytes t r q jobs_only
