-- The demands, of the code: each is a statement here, and its proof stands in proofs/ under the same file name.
pub mod Requests
pub mod Reading
pub mod Steps
pub mod Following
pub mod Bank
pub mod Pieces
pub mod Storing
pub mod Writing
pub mod Wanted
