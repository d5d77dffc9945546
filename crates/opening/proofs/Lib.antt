-- The laws that belong to no one function.
pub mod Rows
pub mod Levels
pub mod Answers
