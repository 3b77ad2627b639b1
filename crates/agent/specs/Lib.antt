-- What the library answers.
pub mod Agent
