pub mod Library
pub mod Formals
