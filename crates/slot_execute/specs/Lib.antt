-- what the public contract rests on
pub mod Left
-- what the functions inside promise each other
pub mod Executes
