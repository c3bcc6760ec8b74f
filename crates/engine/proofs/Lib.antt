-- What the proofs of functions cite, one law for each path through the code:
--     LoadedLaws     loading
--     DueLaws        what is due at a step: the refusals, and what stands at the vertex's place
--     NextLaws       what is due at an item, by its kind and phase
--     FollowLaws     the words that a force follows
--     LeapLaws       the same by leaps
--     StepIs         a step is what is due, with the vertex's own words stored
--     PromiseLaws    a loading, and then a list of steps
--     CandidateLaws  which vertices can step
--     LowestLaws     looking for the lowest of them, and for the lowest that is not busy
pub mod LoadedLaws
pub mod DueLaws
pub mod NextLaws
pub mod FollowLaws
pub mod LeapLaws
pub mod StepIs
pub mod PromiseLaws
pub mod CandidateLaws
pub mod LowestLaws
