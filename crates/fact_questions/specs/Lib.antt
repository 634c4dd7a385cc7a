-- what the public contracts rest on
pub mod Questions
pub mod Findings
