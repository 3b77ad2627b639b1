-- Laws that the proofs of the functions cite.
pub mod Answers
pub mod Pieces
pub mod Writing
pub mod Differing
pub mod Listing
pub mod MapListing
pub mod Checking
