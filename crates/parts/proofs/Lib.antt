-- The laws that belong to no one function.
pub mod Lists
pub mod Levels
pub mod Rows
pub mod Front
pub mod Boxes
pub mod Held
pub mod Runs
pub mod Ends
pub mod Prefix
