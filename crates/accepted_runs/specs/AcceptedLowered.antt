-- what a run rests on
pub mod Runs
