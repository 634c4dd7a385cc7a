-- what the public contract rests on
pub mod Sources
pub mod Answers
pub mod Steps
-- what the functions inside promise each other
pub mod Judged
