-- what the public contract rests on
pub mod Typings
pub mod Passings
-- what the functions inside promise each other
pub mod Ways
