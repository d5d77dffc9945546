-- The laws that belong to no one function.
pub mod Walking
pub mod Boxes
pub mod Holding
pub mod Least
pub mod Moving
pub mod Windows
pub mod ReadTo
pub mod Others
