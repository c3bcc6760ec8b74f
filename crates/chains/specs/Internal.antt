-- What private functions promise one another:
--     Walk       the vertices one edge nearer, and the walk over them
pub mod Walk
