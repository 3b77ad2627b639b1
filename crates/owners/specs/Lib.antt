-- Terminals with owners, where configuration, owners and table are words.
pub mod View
pub mod Fitting
pub mod Step
pub mod Run
