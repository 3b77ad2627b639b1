-- What the readers of plans with owners answer, and what applying one does.
pub mod Section
pub mod Found
pub mod Held
pub mod Applying
pub mod Deliveries
