-- what the public contracts rest on
pub mod Rows
pub mod Values
pub mod Points
pub mod Stops
