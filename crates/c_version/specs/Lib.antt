-- The definition that this crate's contract cites.
pub mod Version
