-- what the public contract rests on
pub mod Plan
-- what the functions inside promise each other
pub mod PrintedLines
pub mod Total
pub mod Lines
