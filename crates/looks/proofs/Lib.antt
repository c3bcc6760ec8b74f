-- What the proofs of functions cite:
--     OpenLaws    who is open, and who is shut besides
--     OwnDue      what is due at the step of an executing vertex
--     SiftLaws    shutting many vertices at once
--     LookLaws    what a look tells
pub mod OpenLaws
pub mod OwnDue
pub mod SiftLaws
pub mod LookLaws
