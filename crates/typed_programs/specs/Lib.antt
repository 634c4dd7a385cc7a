-- what the public contract rests on
pub mod Parts
-- what the functions inside promise each other
pub mod Made
