-- The laws that belong to no one function.
pub mod Promised
pub mod Rules
pub mod Never
mod Rows
mod Root
mod Window
mod Sides
mod Nans
pub mod OneBox
