-- what the public contract rests on
pub mod Gathered
-- what the functions inside promise each other
pub mod FactLists
