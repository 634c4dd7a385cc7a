-- what a call asks for, and what it comes to
pub mod Calls
-- libraries that the crates above name through this one
pub use Rattle.slot_held.specs as slot_held
