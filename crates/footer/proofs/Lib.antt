-- The laws that belong to no one function.
pub mod Domain
pub mod Fields
pub mod Offsets
pub mod Parts
pub mod Passed
pub mod Rules
pub mod Dense
