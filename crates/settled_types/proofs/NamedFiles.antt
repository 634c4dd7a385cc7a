pub mod Faults
pub mod Words
pub mod Records
pub mod Regions
pub mod Steady
pub mod Library
pub mod Formals
