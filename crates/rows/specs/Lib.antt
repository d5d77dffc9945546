-- What the contracts cite; the definitions of a box are those of `boxes`.
pub mod Code
