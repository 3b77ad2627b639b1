-- Laws that the proofs of the functions cite.
pub mod Passing
pub mod Locating
pub mod Holding
pub mod Reading
pub mod Bases
pub mod Outcomes
pub mod Deliveries
