-- What belongs to no one function.
pub mod Starred
pub mod DenseFooters
