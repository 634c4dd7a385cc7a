pub mod Cleared
pub mod Agrees
pub mod Compares
