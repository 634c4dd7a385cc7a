-- what the public contract rests on
pub mod Bodies
-- what the functions inside promise each other
pub mod Made
