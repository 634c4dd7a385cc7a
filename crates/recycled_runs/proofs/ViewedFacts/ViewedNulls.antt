-- names
pub mod Led
pub mod Names
pub mod Viewed
pub mod Sources
pub mod Fed
-- instructions, steps, and the law
pub mod Spared
pub mod Copied
pub mod Actuals
pub mod Passed
pub mod Instructions
pub mod Taken
pub mod Steps
pub mod Runs
