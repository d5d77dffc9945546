-- The laws that belong to no one function.
pub mod Counts
pub mod Root
pub mod Places
pub mod Limits
pub mod Table
pub mod Bound
pub mod Flat
pub mod Rise
pub mod Run
pub mod Steps
pub mod Demand3
pub mod Fewer
pub mod Examples
