-- sums over components
pub mod Sums
-- parts lie in each other, or apart
pub mod Ranges
-- parts of named access types, and the offsets of access parts
pub mod Leaves
