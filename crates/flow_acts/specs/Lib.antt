-- what the public contract rests on
pub mod Calls
pub mod Actless
pub mod Frames
pub mod Depths
-- what the functions inside promise each other
pub mod Plans
pub mod Turns
pub mod Ways
pub mod NamedActs
pub mod Steps
pub mod Spots
