-- The laws that belong to no one function.
pub mod Comparing
pub mod Containing
pub mod Reading
pub mod Cases
