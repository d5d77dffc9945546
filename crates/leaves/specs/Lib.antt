-- What the contracts of private functions cite; those of public ones cite the crate `written`.
pub mod Code
