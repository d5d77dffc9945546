-- The laws that the crates above cite, in the order of what they say: of a pattern, a range, a box, a tree, a query, an
-- opening, a footer, and of the converter.
pub mod Patterns
pub mod Ranges
pub mod Boxes
pub mod Walks
pub mod Tree
pub mod Windows
pub mod Queries
pub mod Opened
pub mod Lossless
pub mod Footers
pub mod Numbers
pub mod Answered
pub mod Converting
pub mod Cases
