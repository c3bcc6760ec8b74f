-- What a reader must believe of the crate `program`, which is docs/ENGINE.md's "Program bytes", and its refusals and limits. What stands in
-- quotation marks are the customer's words.
--     Limits      the limits on programs
--     Trees       programs as trees, and the items that they count
--     Bytes       the bytes of a number and of a program
--     Encodings   what each item does, as a table of commands, and what is counted from it
--     Reader      the reader: the tree that bytes stand for, or the first refusal with its place
--     Located     a tree laid out from an offset on, what stands at a place, where something starts, and where bodies end
--     Answers     what reading a program and reading an item answer
--     Claims      the words in which the reader's theorems are stated
--     Theorems   the theorems, which the functions of src/laws.rt promise
-- Nobody has to believe what stands in Internal: contracts of private functions cite it.
pub mod Limits
pub mod Trees
pub mod Bytes
pub mod Encodings
pub mod Reader
pub mod Located
pub mod Answers
pub mod Claims
pub mod Internal
pub mod Theorems
