-- The laws that belong to no one function.
pub mod Writing
pub mod Counted
pub mod Reading
pub mod Text
pub mod Room
pub mod Fields
pub mod Answered
pub mod Rules
pub mod Examples
pub mod Short
