-- what the public contract rests on
pub mod Sorts
pub mod Offsets
pub mod Sites
pub mod Found
pub mod Frames
pub mod Takes
-- what the functions inside promise each other
pub mod Steps
pub mod Aggregates
