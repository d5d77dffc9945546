-- The definitions that this crate's contracts and laws, and every crate above, cite.
pub mod Text
pub mod Cursor
pub mod Write
pub mod Code
