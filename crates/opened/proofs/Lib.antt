-- The laws that belong to no one function.
mod Keeping
pub mod Rules
