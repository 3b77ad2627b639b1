-- The laws of formats: what is written is read back, and what is read is what was written.
pub mod Formats
pub mod Widths
pub mod Sizes
pub mod Spelled
pub mod Bounds
pub mod Most
pub mod Differing
pub mod Texts
