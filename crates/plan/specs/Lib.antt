-- The definitions that this crate's contracts and laws, and every crate above, cite.
pub mod Plan
pub mod Laws
pub mod Code
