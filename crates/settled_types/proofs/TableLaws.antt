pub mod Sorts
pub mod Offsets
pub mod Tables
pub mod Statics
pub mod Gathers
pub mod Ranked
pub mod Fit
