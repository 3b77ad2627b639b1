-- Answers in numbers that C can hold.
pub mod Lent
