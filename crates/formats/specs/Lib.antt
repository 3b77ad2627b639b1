-- How values stand as bytes: a reader and a writer of each kind, put together from smaller ones.
pub mod Formats
pub mod Sizes
pub mod Texts
