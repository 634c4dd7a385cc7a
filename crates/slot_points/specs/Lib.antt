-- what the public contracts rest on
pub mod Changing
pub mod Steps
