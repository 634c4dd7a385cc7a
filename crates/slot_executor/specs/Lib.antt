-- what a run answers
pub mod Executes
