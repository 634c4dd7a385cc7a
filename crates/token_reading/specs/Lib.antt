-- what the public contracts rest on
pub mod Spelled
pub mod Weights
pub mod Reading
pub mod Kinds
pub mod Sources
