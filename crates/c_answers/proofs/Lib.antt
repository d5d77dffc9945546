-- Laws that more than one proof of this crate cites, or that stand beside a long one.
pub mod Storing
pub mod SchemaName
