-- What a reader must believe of the crate `machine`: the plain machine, which is docs/ENGINE.md's "Loading and stepping" and "Runs", and what is
-- proved of it. What stands in quotation marks are the customer's words.
--     Answers    what a call answers, and its outcome
--     Loading    "Loading clears the used rows and the tally, .."
--     Stepping   "A step names a vertex."
--     Running    "A run takes a budget of steps .."
--     Dispatching "dispatch steps the lowest vertex that can step and is not busy, again and again"
--     Demand2    the words in which demand 2 is stated of loading, of steps, of runs and of dispatch
--     Ahead      "Which job comes ahead"
--     AheadByCode the same by recursion on code
--     Reached    what can be reached from a loading, and lists of calls
--     Demand3    demand 3
--     Traces     traces of an engine, as the contracts of its calls tie them
--     FairOrders every fair order of the jobs can happen, and a schedule for each
--     HandedOut  what a dispatch hands out, and the history of a host that runs jobs on threads
--     Examples   the bench examples that are proved, as one table
--     Theorems   the theorems, which the functions of src/laws.rt promise
pub mod Answers
pub mod Loading
pub mod Stepping
pub mod Running
pub mod Dispatching
pub mod Demand2
pub mod Ahead
pub mod AheadByCode
pub mod Reached
pub mod Demand3
pub mod Traces
pub mod FairOrders
pub mod HandedOut
pub mod Examples
pub mod Theorems
