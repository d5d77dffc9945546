-- The definitions that this crate's contracts and laws, and every crate above, cite.
pub mod Shape
pub mod Walk
pub mod Flat
pub mod Code
