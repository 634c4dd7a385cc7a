-- what is kept of a run between two steps
pub mod Betweens
-- what a step comes to
pub mod Steps
-- how a run ends
pub mod Overs
-- what a run stands for
pub mod Runs
