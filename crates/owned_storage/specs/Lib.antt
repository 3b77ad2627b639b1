-- The state of a terminal with owners in storage: what a call leaves in the other slot.
pub mod Storage
