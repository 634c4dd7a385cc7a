-- what the public contract rests on
pub mod Refused
-- what the functions inside promise each other
pub mod Refusing
pub mod Parts
