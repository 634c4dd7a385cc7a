pub mod Sources
pub mod Running
pub mod Rows
pub mod Typed
pub mod Edges
