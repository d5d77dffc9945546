-- The laws that belong to no one function.
pub mod Counts
pub mod Rules
pub mod Examples
