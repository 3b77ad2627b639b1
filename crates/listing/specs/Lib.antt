-- The lines of a table, from the words where they stand.
pub mod Lines
