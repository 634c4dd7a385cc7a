-- one formal
pub mod One
-- formals that are checked
pub mod Checked
-- formals one after the other
pub mod Rounds
-- what the step does
pub mod Turns
