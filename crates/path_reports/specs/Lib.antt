-- what the public contract rests on
pub mod CalledPoints
-- what the functions inside promise each other
pub mod Told
pub mod Uses
