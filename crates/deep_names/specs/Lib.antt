-- what the public contract rests on
pub mod Bodies
-- what the functions inside promise each other
pub mod Found
pub mod Trees
pub mod Statements
pub mod Programs
pub mod Turns
pub mod Shallow
