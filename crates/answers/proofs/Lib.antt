-- The laws that belong to no one function.
pub mod Runs
pub mod Filled
pub mod Joined
pub mod Checks
pub mod Others
pub mod Moved
pub mod Laid
pub mod Written
pub mod Told
