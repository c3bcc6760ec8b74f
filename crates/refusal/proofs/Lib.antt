-- What the proofs of functions cite:
--     ReasonLaws   each reason has a number, and it is not 0
pub mod ReasonLaws
