-- Definitions on lists, tests, words and bytes. They know nothing of zones; the laws about them are in proofs/.
pub mod Tests
pub mod First
pub mod Pairs
pub mod Places
pub mod Rules
pub mod Lines
pub mod Room
pub mod Words
pub mod Bytes
pub mod Runs
pub mod Orders
pub mod Alike
