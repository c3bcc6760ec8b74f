-- Nobody has to believe these definitions: they are what private functions promise one another.
--     Checks     which command looks for 12 itself
--     FirstRows  the rows at the front of a table
--     Gather     the edges that a stop keeps, brought together
--     Search     the path search under way
pub mod Checks
pub mod FirstRows
pub mod Gather
pub mod Search
