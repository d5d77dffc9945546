-- The definitions that the exported functions' contracts cite.
pub mod Numbered
pub mod Places
