-- What the check of a log finds, answers and leaves.
pub mod Found
pub mod Logs
