-- Unsound tables are refused here, for any command but start.
use Rattle.graph.proofs.CallLaws.{answered, unsound_outcome}
use Rattle.graph.proofs.commands.command_by_value.Goals as goal

pub returns-then-not-is_sound : goal.returns-then-not-is_sound
returns-then-not-is_sound c =
    unsound_outcome _ _ _ _
    (answered c.is_start.ensures c.if-not-is_start.true)
    (answered c.is_sound.ensures c.if-not-is_sound.true)
    (c.settled.ensures _ _)
