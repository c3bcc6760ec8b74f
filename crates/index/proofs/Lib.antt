-- What the proofs share. Laws of the definitions:
--     RowLaws      tables with the same first rows
--     KeptLaws     a table that begins with the rows which another one keeps
--     StandsFor    the edge table that an index stands for
--     Updates      what becomes of it where an edge is added, handed on or dropped
--     TakenIn      held edges that were taken in
-- What the proofs of the code use besides:
--     LinkLaws     the rows with one end, linked: the last of them, the one before each, and a row more
--     OutLaws      the rows out of a vertex, followed from the last to the first
--     MoveLaws     these rows given another source, or dropped
--     LowerLaws    these rows taken off the in-counts of their targets
--     HandLaws     the rows that were not dropped, handed back
--     SearchLaws   following the rows into the vertex to be reached, and the index as the path search of `graph` reads it
--     Widening     who may step after a command, and could not before
--     CommandLaws  the refusals of a caller that executes, and the two ways in which a command on an index ends
--     EdgeCommands the commands that change edges
--     LookLaws     whether a command would be accepted, and what it hinges on
pub mod RowLaws
pub mod KeptLaws
pub mod StandsFor
pub mod Updates
pub mod TakenIn
pub mod LinkLaws
pub mod OutLaws
pub mod MoveLaws
pub mod LowerLaws
pub mod HandLaws
pub mod SearchLaws
pub mod Widening
pub mod CommandLaws
pub mod EdgeCommands
pub mod LookLaws
