pub mod Moves
pub mod Rows
pub mod Walk
pub mod Main
