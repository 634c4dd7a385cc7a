-- what is asked of the bounds of types
pub mod Bounds
-- tables in which no type has itself in it, by ranks
pub mod Ranks
