-- Each return by the law of its path.
use Rattle.engine.proofs.StepIs.{refused_told, start_ready, start_turned, start_taken}
use Rattle.engine.proofs.steps.start_step.Goals as goal

-- a start that is refused
pub returns-then-is_refused : goal.returns-then-is_refused
returns-then-is_refused c =
    start_turned _ _ _ _ c.requires _ c.start-done.result c.start-done.ensures _ (refused_told _ c.is_refused.ensures c.from-answer.ensures) _ c.if-is_refused.true
    c.from-answer.ensures

-- a start that is taken
pub counted-requires : goal.counted-requires
counted-requires c = start_ready _ _ _ _ c.requires _ c.start-done.result c.start-done.ensures _ (refused_told _ c.is_refused.ensures c.from-answer.ensures)

pub returns : goal.returns
returns c =
    start_taken _ _ _ _ c.requires _ c.start-done.result c.start-done.ensures _ (refused_told _ c.is_refused.ensures c.from-answer.ensures) _ _ c.if-is_refused.false
    c.from-answer.ensures c.counted.ensures
