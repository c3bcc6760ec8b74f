-- A start, or else what is due in the program is done.
use Rattle.engine.specs.Internal.Underway.{is_due}
use Rattle.engine.proofs.steps.step_by_value.Goals as goal

pub do_due-requires : goal.do_due-requires
do_due-requires c = is_due _ _ c.next_due-next.ensures
