-- What a reader must believe of the crate `walks`:
--     Answers    which of the plain machine's answers each case of the code's enums is
-- Nobody has to believe what stands in Internal: contracts of private functions cite it.
pub mod Answers
pub mod Internal
