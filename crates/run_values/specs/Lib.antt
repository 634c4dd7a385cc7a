-- what the public contracts rest on
pub mod Values
pub mod Arithmetic
pub mod Division
pub mod Images
pub mod Items
