-- What the second library's functions answer, in numbers that C can hold.
pub mod Bank
pub mod Applying
