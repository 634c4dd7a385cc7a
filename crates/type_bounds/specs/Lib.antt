-- one word between two others
pub mod Bounds
