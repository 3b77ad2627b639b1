-- Laws that the proofs of the functions cite.
pub mod Told
pub mod Offsets
pub mod Fields
pub mod Into
pub mod Passing
pub mod Numbers
pub mod Locating
pub mod Agreeing
pub mod Storing
pub mod Answers
pub mod Holding
pub mod Bases
pub mod Steps
pub mod Judging
pub mod Undoing
pub mod Outcomes
pub mod Deliveries
