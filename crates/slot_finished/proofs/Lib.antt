-- formals one after the other
pub mod Backs
-- what is left
pub mod Left
-- the step
pub mod Steps
