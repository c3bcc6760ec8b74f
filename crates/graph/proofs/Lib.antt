-- What the proofs share. Laws of the definitions:
--     TestLaws     the connectives, and tests over the first n numbers
--     LowestLaws   the lowest number of which a test holds
--     PathLaws     paths, and the test that decides them
--     RefusalLaws  chains of refusals, and the outcome that they decide
--     TableLaws    what stands at a place of a table after an update
--     EdgeLaws     the set of the held edges after an update, and edges held twice
--     CountLaws    how many edges lead into a vertex after an update, and its in-count
--     SoundLaws    sound tables, in words of numbers
--     TakenLaws    when a command is taken: what its chain of tests finds
--     RuleLaws     the sets of edges that the rules write down
--     GraphLaws    the graph that tables hold
--     WordLaws     the words that a command leaves alone
--     EffectLaws   what a command that is taken does
--     KeepLaws     what a command that is taken keeps
--     CycleLaws    which updates close a cycle
--     AcceptLaws   on a graph without a cycle: where a command is taken
-- The theorems:
--     Demand2      demand 2 of a single command
--     Reasons      each refusal of a command: given exactly where its reason holds and none before it does
--     OpeningLaws    the opening: where it is refused, and what it leaves alone
--     InCounts     every command keeps the in-counts true, and start answers by them as the full search would
-- What the proofs of the code use besides:
--     ClearLaws    clearing words one by one, and a part as a whole
--     FirstRowLaws the rows at the front of a table, as arrays
--     SoundChecks  what each look at the tables tells of refusal 12
--     EdgeLoops    what a search or a loop over the held edges has done after each row
--     RowLinks     the edge rows linked by their targets
--     Frontier     the path search, turn by turn
--     CallLaws     a call's outcome from its refusal
pub mod TestLaws
pub mod LowestLaws
pub mod PathLaws
pub mod RefusalLaws
pub mod TableLaws
pub mod EdgeLaws
pub mod CountLaws
pub mod SoundLaws
pub mod TakenLaws
pub mod RuleLaws
pub mod GraphLaws
pub mod WordLaws
pub mod EffectLaws
pub mod KeepLaws
pub mod CycleLaws
pub mod AcceptLaws
pub mod Demand2
pub mod Reasons
pub mod OpeningLaws
pub mod InCounts
pub mod ClearLaws
pub mod FirstRowLaws
pub mod SoundChecks
pub mod EdgeLoops
pub mod RowLinks
pub mod Frontier
pub mod CallLaws
