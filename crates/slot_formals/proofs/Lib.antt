-- what a memory comes to
pub mod Leading
-- formals one after the other
pub mod Placing
pub mod Moving
-- a frame that begins
pub mod Filling
pub mod Beginning
