-- What an agent that lends its state may count on.
pub mod Lending
