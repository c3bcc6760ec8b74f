-- What a reader must believe of the crate `cases`:
--     Shown      how a program's bytes, a refusal and what a call left are shown
--     Changes    what a host may have altered
--     Sums       a sum over a table that any changed word shows in
--     Draws      numbers that look drawn
pub mod Shown
pub mod Changes
pub mod Sums
pub mod Draws
