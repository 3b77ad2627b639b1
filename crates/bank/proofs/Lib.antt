-- Laws that the proofs of the functions cite.
pub mod Answers
pub mod Applying
