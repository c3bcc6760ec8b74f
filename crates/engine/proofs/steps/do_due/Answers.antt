-- Each return by the law of its path.
use Rattle.engine.proofs.StepIs.{refused_told, refused_path, job_ready, job_path, command_ready, turned_path, taken_ready, taken_path}
use Rattle.engine.proofs.steps.do_due.Goals as goal

-- a job: its vertex's row, and one step more
pub store-requires : goal.store-requires
store-requires c = (job_ready _ _ _ _ _ _ _ _ c.in-Job.is c.requires).0

pub counted-requires : goal.counted-requires
counted-requires c =
    (job_ready _ _ _ _ _ _ _ _ c.in-Job.is
    c.requires).1

-- a command: it is a start, or the tables are sound
pub command_checked-done-requires : goal.command_checked-done-requires
command_checked-done-requires c = (command_ready _ _ _ _ _ _ _ c.in-Command.is c.requires).2

-- a command that is refused
pub returns-then-is_refused : goal.returns-then-is_refused
returns-then-is_refused c =
    turned_path _ _ _ _ _ _ _
    c.in-Command.is _ _
    c.command_checked-done.result
    c.command_checked-done.ensures _ (refused_told _ c.is_refused.ensures c.from-answer.ensures) _
    c.if-is_refused.true c.from-answer.ensures

-- a command that is taken
pub store-requires-in-Command : goal.store-requires-in-Command
store-requires-in-Command c =
    (taken_ready _ _ _ _ _ _ _
    c.in-Command.is _ _
    c.command_checked-done.result
    c.command_checked-done.ensures _ (refused_told _ c.is_refused.ensures c.from-answer.ensures)
    c.requires).0

pub counted-requires-in-Command : goal.counted-requires-in-Command
counted-requires-in-Command c =
    (taken_ready _ _ _ _ _ _ _
    c.in-Command.is _ _
    c.command_checked-done.result
    c.command_checked-done.ensures _
    (refused_told _ c.is_refused.ensures c.from-answer.ensures)
    c.requires).1

-- a refusal
pub returns-in-Refused : goal.returns-in-Refused
returns-in-Refused c = rw c.into.ensures (refused_path _ _ _ _ c.in-Refused.is)

-- a job
pub returns-in-Job : goal.returns-in-Job
returns-in-Job c =
    job_path _ _ _ _ _ _ _ _ c.in-Job.is _ _ c.store.ensures
    c.counted.ensures

-- a command
pub returns-else-is_refused : goal.returns-else-is_refused
returns-else-is_refused c =
    taken_path _ _ _ _ _ _ _
    c.in-Command.is
    _ _
    c.command_checked-done.result
    c.command_checked-done.ensures _
    (refused_told _ c.is_refused.ensures c.from-answer.ensures) _ _ _ c.if-is_refused.false
    c.from-answer.ensures c.store-in-Command.ensures c.counted-in-Command.ensures
