-- What the proofs share:
--     BitLaws    the bits of a word
--     MarkLaws   marks, found and spread, one turn of a loop at a time, and what is told of the pairs by them
pub mod BitLaws
pub mod MarkLaws
