-- The definitions that this crate's contracts, and every crate above, cite.
pub mod Refusals
pub mod Runs
pub mod Checks
pub mod Laid
pub mod Told
