-- Some vertex can step; or all are finished, or not.
use Rattle.walks.proofs.RunLaws.{ends_can, ends_not}
use Rattle.walks.proofs.runs.at_end.Goals as goal

pub returns-then-can : goal.returns-then-can
returns-then-can c = ends_can _ c.if-can.true

pub returns-then-all_finished : goal.returns-then-all_finished
returns-then-all_finished c = ends_not c.if-can.false c.all_finished.ensures c.if-all_finished.true

pub returns-else-all_finished : goal.returns-else-all_finished
returns-else-all_finished c = ends_not c.if-can.false c.all_finished.ensures c.if-all_finished.false
