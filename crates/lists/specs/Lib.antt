-- The definitions that this crate's contracts, and every crate above, cite.
pub mod Lists
pub mod Offsets
pub mod VarOffsets
pub mod Sizes
