-- The definitions that this crate's contracts cite.
pub mod Asked
pub mod Text
pub mod Code
