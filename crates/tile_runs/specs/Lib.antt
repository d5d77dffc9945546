-- The definitions that this crate's contracts, and every crate above, cite.
pub mod Told
