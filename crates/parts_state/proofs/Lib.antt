-- The laws that belong to no one function.
pub mod Shown
pub mod Whole
pub mod Starts
pub mod Chained
pub mod Dues
pub mod Rules
pub mod Examples
