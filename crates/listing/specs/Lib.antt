-- What a reader must believe of the crate `listing`:
--     Text       the lister's lines, as bytes
--     Lines      which line a call gives, and what it does
--     Listing    all lines, one behind the other
pub mod Text
pub mod Lines
pub mod Listing
