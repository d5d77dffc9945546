-- What the contracts of private functions cite; those of public ones cite the crate `parts_state`.
pub mod Code
