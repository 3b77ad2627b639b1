-- Laws that the proofs of the functions cite.
pub mod Bytes
pub mod Filling
pub mod Putting
pub mod Writing
