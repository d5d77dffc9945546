-- The definitions that this crate's contracts, and every crate above, cite.
pub mod Limits
pub mod Kinds
pub mod Description
pub mod Rules
