-- The laws that belong to no one function.
pub mod Turns
pub mod Bodies
pub mod Asked
pub mod Telling
