-- What the proofs of functions cite:
--     NumeralLaws  a numeral is what `{}` shows of a number, and its length
--     LineLaws     which line a call gives
--     ListingLaws  what a listing has written so far
-- And for a reader:
--     LineLengths  no line is longer than 64 bytes
--     Examples     lines, evaluated
pub mod NumeralLaws
pub mod LineLaws
pub mod ListingLaws
pub mod LineLengths
pub mod Examples
