-- The definitions that contracts cite: this crate's, and those of the crates that use it.
pub mod Little
pub mod Key
