-- what the public contracts rest on
pub mod Extents
pub mod Prepared
pub mod Statements
pub mod Programs
