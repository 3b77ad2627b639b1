-- Laws that the proofs of the functions cite.
pub mod Beside
pub mod Calls
