-- Laws that the proofs of the functions cite.
pub mod Steps
pub mod Editions
