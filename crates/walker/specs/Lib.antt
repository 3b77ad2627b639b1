-- What a walker finds, and what its findings say of a plan's edition.
pub mod Walker
pub mod Edition
