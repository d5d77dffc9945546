-- The laws that belong to no one function.
pub mod Tests
pub mod Limits
pub mod Sides
pub mod Patterns
pub mod Keys
pub mod Datatypes
pub mod Rules
pub mod Retired
pub mod Others
