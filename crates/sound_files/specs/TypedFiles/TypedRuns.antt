-- what typing says of code
pub mod Code
-- formals of subprograms
pub mod Formals
-- the bounds of types
pub mod Bounds
-- what is asked of a text
pub mod Meant
