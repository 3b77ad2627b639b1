-- Laws of bytes that are put into others.
pub mod Puts
pub mod Pens
pub mod Room
