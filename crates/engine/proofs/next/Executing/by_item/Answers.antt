-- Nothing stands at the place, or what stands there decides: its kind's function tells what is due.
use native.Mathlib.Omega.{arith}
use mathlib.Core.Path.{refl}
use Rattle.engine.proofs.DueLaws.{next_nothing, next_read, item_length, of_edition}
use Rattle.engine.proofs.next.Executing.by_item.Goals as goal

pub returns-in-Refused : goal.returns-in-Refused
returns-in-Refused c = next_nothing _ _ _ _ _ _ _ c.requires.0 c.in-Refused.is

pub returns-in-End : goal.returns-in-End
returns-in-End c = next_read _ _ _ _ _ _ _ c.requires.0 c.in-End.is (λ s e. c.end_next.ensures _ _ _ _ s)

pub returns-in-Job : goal.returns-in-Job
returns-in-Job c = next_read _ _ _ _ _ _ _ c.requires.0 c.in-Job.is (λ s e. c.job_next.ensures _ _ _ _ s)

pub returns-in-Async : goal.returns-in-Async
returns-in-Async c = next_read _ _ _ _ _ _ _ c.requires.0 c.in-Async.is (λ s e. c.async_next.ensures _ _ s)

pub returns-in-Finish : goal.returns-in-Finish
returns-in-Finish c = next_read _ _ _ _ _ _ _ c.requires.0 c.in-Finish.is (λ s e. c.finish_next.ensures _ s)

-- a fork, in either edition
pub returns-in-First : goal.returns-in-First
returns-in-First c =
    next_read _ _ _ _ _ _ _ c.requires.0 c.in-Fork.is
    (of_edition _ _ _ _ _ _ _ c.in-First.is c.fork_next.ensures)

pub returns-in-Second : goal.returns-in-Second
returns-in-Second c =
    next_read _ _ _ _ _ _ _ c.requires.0 c.in-Fork.is
    (of_edition _ _ _ _ _ _ _ c.in-Second.is (c.yielding_fork_next.ensures _))

pub returns-in-Future : goal.returns-in-Future
returns-in-Future c = next_read _ _ _ _ _ _ _ c.requires.0 c.in-Future.is (λ s e. c.future_next.ensures _ s)

pub returns-in-Force : goal.returns-in-Force
returns-in-Force c = next_read _ _ _ _ _ _ _ c.requires.0 c.in-Force.is (c.force_next.ensures _)

pub overflow_sub-program : goal.overflow_sub-program
overflow_sub-program c = (item_length _ _ _ c.requires.0 c.in-Finish.is refl).0

pub overflow_cast-program : goal.overflow_cast-program
overflow_cast-program c = omega (arith, item_length _ _ _ c.requires.0 c.in-Finish.is refl)

pub overflow_sub-program-in-First : goal.overflow_sub-program-in-First
overflow_sub-program-in-First c = (item_length _ _ _ c.requires.0 c.in-Fork.is refl).0

pub overflow_cast-program-in-First : goal.overflow_cast-program-in-First
overflow_cast-program-in-First c = omega (arith, item_length _ _ _ c.requires.0 c.in-Fork.is refl)

pub overflow_sub-program-in-Future : goal.overflow_sub-program-in-Future
overflow_sub-program-in-Future c = (item_length _ _ _ c.requires.0 c.in-Future.is refl).0

pub overflow_cast-program-in-Future : goal.overflow_cast-program-in-Future
overflow_cast-program-in-Future c = omega (arith, item_length _ _ _ c.requires.0 c.in-Future.is refl)

pub overflow_sub-program-in-Force : goal.overflow_sub-program-in-Force
overflow_sub-program-in-Force c = (item_length _ _ _ c.requires.0 c.in-Force.is refl).0

pub overflow_cast-program-in-Force : goal.overflow_cast-program-in-Force
overflow_cast-program-in-Force c = omega (arith, item_length _ _ _ c.requires.0 c.in-Force.is refl)
