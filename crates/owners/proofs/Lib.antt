-- Laws that the proofs of the functions cite.
pub mod Fitting
pub mod Checking
pub mod Owns
pub mod Stands
pub mod Answering
pub mod Running
