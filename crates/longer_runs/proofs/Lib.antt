-- what a step adds
pub mod Steps
-- what a longer run adds
pub mod Runs
