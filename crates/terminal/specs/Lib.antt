pub mod Terminal
pub mod Lending
