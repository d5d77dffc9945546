-- The laws that belong to no one function.
pub mod Reading
pub mod Integers
pub mod Writing
pub mod Outcomes
