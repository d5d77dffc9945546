-- The definitions that this crate's laws, and every crate above, cite.
pub mod Body
pub mod Writing
pub mod Opened
pub mod SameLeaves
