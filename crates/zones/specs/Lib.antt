-- What words stand for.
pub mod Layout
pub mod Moves
pub mod Records
pub mod View
pub mod Spans
pub mod Words
pub mod Packing
pub mod Holding
pub mod Owners
pub mod Decide
pub mod Step
pub mod Run
pub mod Audit
pub mod Kept
pub mod Trial
pub mod Translate
