-- Laws about the definitions of specs/, each stated once, in the form that `search` finds.
pub mod Tests
pub mod First
pub mod Every
pub mod Pairs
pub mod Places
pub mod Rules
pub mod Lines
pub mod Room
pub mod Words
pub mod Bytes
pub mod Runs
pub mod Orders
pub mod Alike
pub mod Kept
pub mod Distinct
