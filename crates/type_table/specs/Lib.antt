-- what the public contract rests on
pub mod Definitions
pub mod Sizes
