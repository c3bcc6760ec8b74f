-- Looks on an index of the edges. They serve the proof of the engine's walks, and nobody has to believe them.
--     Looking    who is open, who is shut, and what a step hinges on
--     OfLook     the same, of a look
pub mod Looking
pub mod OfLook
