-- What the contracts of private functions cite; those of public ones cite the crate `footer`.
pub mod Code
