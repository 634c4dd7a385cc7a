pub mod Values
pub mod Fitting
pub mod Passing
