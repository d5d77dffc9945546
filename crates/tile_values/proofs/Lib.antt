-- The laws that belong to no one function.
pub mod Values
pub mod Pairs
pub mod Examples
