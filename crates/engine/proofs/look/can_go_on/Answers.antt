-- Of a vertex that executes it is seen whether what is due would be accepted.
use mathlib.Core.Path.{sym}
use Rattle.graph.proofs.SoundChecks.{sound_rows}
use Rattle.engine.proofs.CandidateLaws.{executing_can}
use Rattle.engine.proofs.look.can_go_on.Goals as goal

pub returns : goal.returns
returns c =
    sym (executing_can _ _ _ _ c.args.tables.now.sound c.requires.0 c.requires.1 c.requires.2 c.ended_due-next.ensures c.would_take.ensures)

pub ended_due-next-requires : goal.ended_due-next-requires
ended_due-next-requires c = (c.requires.1, (sound_rows _ c.args.tables.now.sound).0)
