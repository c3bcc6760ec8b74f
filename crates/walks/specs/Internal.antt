-- Nobody has to believe these definitions: they are what private functions promise one another.
--     Walking    a walk under way
--     Endings    how it ends
--     Handing    what is handed on
pub mod Walking
pub mod Endings
pub mod Handing
