-- The definitions that this crate's contract, and every crate above, cite.
pub mod Ranges
