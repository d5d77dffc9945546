-- The laws that belong to no one function.
pub mod Little
pub mod Bytes
pub mod Stores
pub mod Halves
pub mod Pairs
pub mod Tests
pub mod Sides
pub mod Worth
pub mod Floats
pub mod Infinities
pub mod Read
pub mod Cases
