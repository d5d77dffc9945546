-- The laws that belong to no one function.
pub mod Header
pub mod Rules
pub mod Examples
pub mod Telling
