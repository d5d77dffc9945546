-- The laws that belong to no one function.
pub mod Passing
pub mod Grid
pub mod Rows
pub mod Along
pub mod Accepting
pub mod Meaning
pub mod Orders
pub mod Examples
pub mod Told
pub mod Capping
pub mod Storing
pub mod Filling
pub mod Holding
pub mod Promised
