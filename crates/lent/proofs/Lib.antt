-- Laws that the proofs of the functions cite, here and in the libraries.
pub mod Answers
