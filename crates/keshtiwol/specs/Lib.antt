-- What a reader must believe of the crate `keshtiwol`:
--     Numbers    which numbers stand for which answer and command, what a call's reply tells, and the version
pub mod Numbers
