-- What the proofs of functions cite:
--     SumLaws      the sum of one word more
--     ShownLaws    one byte more is shown
pub mod SumLaws
pub mod ShownLaws
