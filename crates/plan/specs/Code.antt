-- The code's own business: nothing below is promised to a caller.
pub mod Marks
pub mod Progress
