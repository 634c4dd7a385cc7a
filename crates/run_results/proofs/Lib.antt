-- sinks that got a front of some bytes
pub mod Fronts
