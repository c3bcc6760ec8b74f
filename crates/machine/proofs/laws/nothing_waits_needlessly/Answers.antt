-- The theorem, as it is proved.
use Rattle.machine.proofs.NothingWaits as NothingWaits
use Rattle.machine.proofs.laws.nothing_waits_needlessly.Goals as goal

pub returns : goal.returns
returns c ed bytes t s₀ answers s marks running = NothingWaits.nothing_waits_needlessly ed bytes t
