-- The definitions that the exported functions' contracts cite.
pub mod Lent
