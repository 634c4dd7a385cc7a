-- what the public contract rests on
pub mod Answers
pub mod Endings
pub mod Counts
pub mod Stores
pub mod Runs
-- what the functions inside promise each other
pub mod Inputs
pub mod Faults
-- a library that the crates above name through this one
pub use Rattle.slot_execute.specs as slot_execute
