-- code without calls
pub mod Calls
