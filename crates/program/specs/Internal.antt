-- Nobody has to believe these definitions: they are what private functions promise one another.
--     Progress   a reading under way
pub mod Progress
