-- The code's own business: nothing here is promised to a caller.
pub mod Stored
