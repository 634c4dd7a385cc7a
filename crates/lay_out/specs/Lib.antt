-- what the public contract rests on
pub mod Refusals
pub mod Parts
-- what the functions inside promise each other
pub mod Known
pub mod Subs
pub mod Programs
