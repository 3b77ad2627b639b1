-- What lent bytes are after others were put into them.
pub mod Puts
pub mod Pens
pub mod Filling
