-- The laws that belong to no one function.
pub mod Laws
pub mod Marks
pub mod Words
pub mod Steps
pub mod Answers
pub mod Accepted
pub mod Examples
