-- What is proved of the plain machine, and how. A step of the lent tables is a move of a ghost machine, in which each vertex has the code
-- that it has left. What holds of the ghost machine's states, what its events weigh and the order of its jobs carry over to the tables and
-- to the answers.
--
-- The theorems:
--     Demand3         demand 3, of whatever is reached from an accepted loading
--     Traces          demand 3 of every list of calls, and of every trace of an engine, which is the plain machine's
--     FairOrders      every fair order of the jobs can happen, and no other (note 7)
--     NothingWaits    for a host that runs jobs on threads, nothing waits needlessly: a job that was not handed out waits for a running one
--     Calls           a list of calls, runs and dispatches among them, reaches what its steps reach; what these two answer of their steps
--     LoadLaws        demand 2 of loading: what is accepted, that a refusal changes nothing, and that no word past the usable rows changes
--     StepDemand2     demand 2 of a step: it is what is due, taken where its command is
--     RunDemand2      demand 2 of a run: only such steps, and how it ends
--     DispatchDemand2 demand 2 of a dispatch: only such steps, each of the lowest vertex that is not busy, and how it ends
--     HandedOut       what a dispatch hands out, which marks it sets, and that it leaves busy vertices alone
--     LookLaws        a run turn by turn: what its steps keep, which vertex it finds, which cannot step, and what each look comes to
--     InCounts        the words that start reads are true in whatever is reached, so it answers there as the full search would
--     Examples        the examples of the table hold
--     AheadIsPre      the order of jobs as it is defined is the one by recursion on code that the proofs use
--     AheadUnique     the body that this order looks at is the only one there is, and so the innermost; of a job that a force is read as
--                     waiting for, the same of the force; two branches of a fork are not ordered
--     AheadExamples   this order, on two of the example programs, and on two with a future
--     OrderExamples   and in every list of steps of two of them
--     JobsAnswered    the order in which answers name jobs
--     ReachedLaws     more of whatever is reached: the rows suffice, an executing vertex can step, and a step's edge is a new one
-- In rooms of their own, each with its list:
--     GhostMachine    the ghost machine, and what holds of every state that it reaches
--     Counting        counting what is left to do
--     JobOrder        the order of jobs
--     TablesFollow    the tables follow the ghost machine
pub mod Demand3
pub mod Traces
pub mod FairOrders
pub mod NothingWaits
pub mod Calls
pub mod LoadLaws
pub mod StepDemand2
pub mod RunDemand2
pub mod DispatchDemand2
pub mod HandedOut
pub mod LookLaws
pub mod InCounts
pub mod Examples
pub mod AheadIsPre
pub mod AheadUnique
pub mod AheadExamples
pub mod OrderExamples
pub mod JobsAnswered
pub mod ReachedLaws
pub mod GhostMachine
pub mod Counting
pub mod JobOrder
pub mod TablesFollow
