-- a truth waits
pub mod Truths
-- libraries that the crates above name through this one
pub use Rattle.slot_parts.specs as slot_parts
