-- Laws that the proofs of the functions cite.
pub mod Stretches
pub mod Looking
pub mod Putting
pub mod Filling
