-- The run's own index of its edges, and what it stands for. It serves the proof of the engine's runs, and nobody has to believe it: a run is held
-- to the plain machine's definition (crate `machine`).
--     Layout     the words of an index, and what stands in them
--     Table      the edge table that an index stands for
--     Underway   a run under way: all that is lent, as vertex table, index and course tell it
--     Asking     what can be told of a command before it is given: whether it is accepted, and what it hinges on
pub mod Layout
pub mod Table
pub mod Underway
pub mod Asking
