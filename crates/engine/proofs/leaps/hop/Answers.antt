-- By the future that the word names.
use Rattle.engine.proofs.LeapLaws.{hop_read}
use Rattle.engine.proofs.leaps.hop.Goals as goal

pub returns : goal.returns
returns c = hop_read _ _ _ _ c.if-vertex-eq-NONE_OPEN.false c.open_future.ensures.value c.unwrap_or.ensures
