-- what the public contracts rest on
pub mod Outcomes
pub mod Leaks
