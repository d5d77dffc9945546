-- The definitions that this crate's contracts, and every crate above, cite.
pub mod Fields
pub mod Checks
pub mod Answer
pub mod Code
