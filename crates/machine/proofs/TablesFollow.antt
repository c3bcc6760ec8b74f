-- The tables follow the ghost machine:
--     Follows         how tables and states belong together
--     RowLaws         what a vertex's row is after an update
--     OwnLaws         a vertex's own words, stored and read
--     FollowLaws      tables go on following, one law for each effect
--     FutureLaws      the words that a force follows
--     CommandLaws     the commands that are due are taken
--     DoneLaws        what the tables follow after a command
--     AnswerLaws      chains of tests before what is due
--     StepLaws        what is due at a step, by its vertex's row
--     ItemLaws        the table of commands, from where an item has come to
--     MoveLaws        what each move does to the tables
--     StepFollows     a step is a move, or is refused for a reason that the state shows
--     LoadFollows     after loading the tables follow the beginning
--     Tracked         so whatever is reached follows a run of the ghost machine
--     RunEnds         how a run ends from there
pub mod Follows
pub mod RowLaws
pub mod OwnLaws
pub mod FollowLaws
pub mod FutureLaws
pub mod CommandLaws
pub mod DoneLaws
pub mod AnswerLaws
pub mod StepLaws
pub mod ItemLaws
pub mod MoveLaws
pub mod StepFollows
pub mod LoadFollows
pub mod Tracked
pub mod RunEnds
