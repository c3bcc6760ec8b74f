-- The order of jobs:
--     Order           who waits for which jobs, and the invariant of their order
--     OrderLaws       the laws of this recursion
--     WaitLaws        what a vertex waits for, and that a job is answered in order
--     AtHand          where jobs are all that can be done next, a job of which nothing ahead is left is one of them
--     StillRunning    the machine without its running jobs: they may as well be the last steps of all
--     OrderMoves      the moves that split nothing keep the order
--     OrderParts      so does giving code away in parts
--     OrderPieces     the parts of each kind of item
--     OrderSplit      so a split keeps the order
--     OrderKept       the order holds after loading, and every move keeps it
pub mod Order
pub mod OrderLaws
pub mod WaitLaws
pub mod AtHand
pub mod StillRunning
pub mod OrderMoves
pub mod OrderParts
pub mod OrderPieces
pub mod OrderSplit
pub mod OrderKept
