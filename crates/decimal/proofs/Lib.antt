-- The laws that belong to no one function.
pub mod Written
pub mod Back
pub mod Steps
pub mod Put
pub mod Signed
pub mod Examples
