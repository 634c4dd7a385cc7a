pub mod Points
pub mod Readings
pub mod Trees
pub mod Statements
pub mod Entries
pub mod Main
