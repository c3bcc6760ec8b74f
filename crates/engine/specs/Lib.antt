-- What a reader must believe of the crate `engine`:
--     Answers    which of the plain machine's answers each case of the code's enums is
--     Promise    demand 3 of a loading and a list of steps
-- Nobody has to believe what stands in Internal: contracts of private functions cite it.
pub mod Answers
pub mod Promise
pub mod Internal
