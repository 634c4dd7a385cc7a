pub mod Limits
pub mod Laying
pub mod Ends
pub mod Turns
pub mod Whole
