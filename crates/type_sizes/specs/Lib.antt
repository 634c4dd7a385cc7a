-- what the public contract rests on
pub mod Limits
pub mod Formed
-- what the functions inside promise each other
pub mod Sizes
