pub mod Closing
pub mod Layered
