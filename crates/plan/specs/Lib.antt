-- What the readers of plans answer.
pub mod Told
pub mod Fields
pub mod Into
pub mod Sections
pub mod Found
pub mod Held
pub mod Read
pub mod Steps
pub mod Machines
pub mod Applying
pub mod Deliveries
