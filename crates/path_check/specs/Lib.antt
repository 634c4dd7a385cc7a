-- what the public contract rests on
pub mod Told
pub mod Verdicts
-- what the functions inside promise each other
pub mod Paths
