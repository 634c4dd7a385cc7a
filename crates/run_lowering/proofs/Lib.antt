pub mod Shapes
pub mod Founds
pub mod Placing
pub mod Aggregates
pub mod Rooms
pub mod Starts
