-- A terminal's state in storage: what the calls leave in the slots.
pub mod Beside
pub mod Storage
