-- The laws that belong to no one function.
pub mod Ends
pub mod Floats
pub mod Sound
pub mod Checked
