-- The laws that belong to no one function.
pub mod Laying
pub mod Windows
pub mod Run
pub mod Rules
mod Step
