-- the step of a point as a turn
pub mod Points
-- the next step as a turn
pub mod Turned
-- what a run stands for
pub mod Runs
-- turns one after the other
pub mod Made
-- points that take no values and store one word at most
pub mod Idle
