-- The laws that belong to no one function.
pub mod Choosing
pub mod Sides
pub mod Floats
pub mod Rows
pub mod Levels
pub mod Checked
