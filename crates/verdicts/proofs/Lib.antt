-- The laws that belong to no one function.
pub mod Judging
pub mod Stored
pub mod Reading
pub mod Cases
