-- Laws that the proofs of the functions cite.
pub mod Signed
pub mod Fields
pub mod Putting
pub mod Listing
