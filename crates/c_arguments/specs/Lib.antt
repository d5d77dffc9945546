-- The definitions that the contracts of this crate and of the exported functions cite.
pub mod Described
pub mod Windows
