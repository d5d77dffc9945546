-- The laws that belong to no one function.
pub mod Passed
pub mod Nested
pub mod Sound
pub mod Rules
pub mod Finite
pub mod Others
pub mod Left
