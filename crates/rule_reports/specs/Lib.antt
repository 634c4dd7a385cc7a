-- what the public contracts rest on
pub mod Codes
pub mod Lines
