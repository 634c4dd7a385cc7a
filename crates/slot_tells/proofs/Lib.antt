pub mod Told
pub mod Inputs
pub mod Truths
-- libraries that the crates above name through this one
pub use Rattle.slot_parts.proofs as slot_parts
