-- The definitions that this crate's contracts, and every crate above, cite.
pub mod Decimal
pub mod Read
pub mod Write
