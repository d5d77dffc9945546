-- The laws of the written body.
pub mod Examples
pub mod Boxes
pub mod Body
pub mod Opened
pub mod Again
pub mod Tree
pub mod Room
pub mod SameLeaves
pub mod Fewest
pub mod Rules
pub mod Telling
