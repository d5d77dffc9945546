-- The definitions that this crate's contracts, and those of `parts`, cite.
pub mod Parts
pub mod Took
pub mod Code
