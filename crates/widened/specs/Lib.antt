-- The definitions that this crate's laws, and the converter's contracts, cite.
pub mod Widened
pub mod Answered
pub mod Footers
pub mod Converting
