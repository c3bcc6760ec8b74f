-- What a reader must believe of the crate `refusal`:
--     Refusals   the refusals' numbers and names, by who causes them
--     Reasons    the number of each reason that the code gives, and of the refusal that is due
--     Words      the words that each reason is shown with
pub mod Refusals
pub mod Reasons
pub mod Words
