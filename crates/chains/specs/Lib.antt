-- What a reader must believe of the crate `chains`, which is docs/ENGINE.md's "Chains". What stands in quotation marks are the customer's words,
-- from note 2 (docs/changes/02-show-me-the-loop.md).
--     Chains     a chain of held edges, and the one that is written: the shortest, and of these the first
--     Showing    the call: its refusals, what it writes and what it says
--     Claims     the words in which the theorems are stated (proofs/Theorems.antt)
--     Examples   calls, and what they come to
--     Theorems   the theorems, which the functions of src/laws.rt promise
-- Nobody has to believe what stands in Internal: contracts of private functions cite it.
pub mod Chains
pub mod Showing
pub mod Claims
pub mod Examples
pub mod Internal
pub mod Theorems
