-- what is said of runs
pub mod Runs
