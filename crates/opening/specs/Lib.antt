-- The definitions of opening are those of `rtree`: here stands only what the code goes by.
pub mod Code
