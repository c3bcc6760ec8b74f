-- What a reader must believe of the crate `graph`, which is docs/ENGINE.md's "Tables and tally", "The seven commands" and their refusals. What
-- stands in quotation marks are the customer's words; notes are those of "Requests that changed the engine" there.
--     Tests      the connectives of tests, and tests over the first n numbers
--     Tables     what is lent: usable rows, the words of a row, the tally
--     Answers    what a call answers, and its outcome
--     Sound      refusal 12, in its parts
--     Paths      paths of held edges, and the test that decides them
--     Commands   the opening and the seven commands
--     Rules      the rules of the dag-calculus, as the slides and the article print them
--     InCounts   the word that start reads: when it is true, and the full search that it stands for
--     Demand2    the words in which demand 2 is stated of a single command, and the reasons of its refusals
--     Theorems   the theorems, which the functions of src/laws.rt promise
-- Nobody has to believe what stands in Internal: contracts of private functions cite it.
pub mod Tests
pub mod Tables
pub mod OfTables
pub mod Answers
pub mod Sound
pub mod Paths
pub mod Commands
pub mod Rules
pub mod InCounts
pub mod Demand2
pub mod Internal
pub mod Theorems
