-- what the public contract rests on
pub mod Reading
pub mod Lexing
pub mod Promises
-- what the functions inside promise each other
pub mod Stops
pub mod Answers
pub mod Refusals
