-- What the proofs of functions cite, one law for each path through the code:
--     IndexSteps     a step on an index of the edges is what is due, with the vertex's own words stored
--     FreeLaws       which vertices may be the next of a walk
--     ShutLaws       which steps let no other vertex step that was refused before
--     RenewLaws      an index that is used up, and the one after it
--     WalkLaws       steps of the lowest vertex that is not busy, one after the other
--     RunLaws        what a run makes of them
--     DispatchLaws   what a dispatch makes of them
pub mod IndexSteps
pub mod FreeLaws
pub mod ShutLaws
pub mod RenewLaws
pub mod WalkLaws
pub mod RunLaws
pub mod DispatchLaws
