-- a run between two steps
pub mod Runs
-- what the step of a point comes to as a turn
pub mod Points
