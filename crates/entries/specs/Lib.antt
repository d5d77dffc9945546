-- What the contracts of private functions cite; those of public ones cite the crate `lists`.
pub mod Code
