-- what `check` accepts
pub mod Main
-- by what a type keeps
pub mod Kept
