-- The proofs of the demands.
pub mod Requests
pub mod Reading
pub mod Steps
pub mod Following
pub mod Bank
pub mod Pieces
pub mod Storing
pub mod Writing
pub mod Wanted
