-- The laws that belong to no one function.
pub mod Pieces
pub mod Parts
pub mod Lines
pub mod Compared
pub mod Back
pub mod Writing
