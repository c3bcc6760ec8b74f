-- Which of many pairs of vertices are joined by paths of an index's rows. It serves the proof of the engine's runs, and nobody has to believe it: a run
-- is held to the plain machine's definition (crate `machine`).
--     Pairs      what is told of a pair
--     Marks      a bit for each pair, and what the private functions promise one another about these
--     Order      what is so of an order of the rows in the making
--     Making     what the private functions promise one another about it
pub mod Pairs
pub mod Marks
pub mod Order
pub mod Making
