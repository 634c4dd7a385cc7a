-- what the public contract rests on
pub mod Words
