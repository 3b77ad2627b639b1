-- What the list's code answers and leaves, in words and bytes.
pub mod Wanted
