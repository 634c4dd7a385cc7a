-- what a memory comes to
pub mod Leads
-- what formals get
pub mod Formals
-- libraries that the crates above name through this one
pub use Rattle.slot_calls.specs as slot_calls
