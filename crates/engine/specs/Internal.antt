-- Nobody has to believe these definitions: they are what private functions promise one another.
--     Underway   a step under way
--     Leaping    tables of leaps
pub mod Underway
pub mod Leaping
