-- cells and heap go on together
pub mod Numbering
-- slots are greatest counts
pub mod Peaks
-- libraries that the crates above name through this one
pub use Rattle.run_codes.proofs as run_codes
pub use Rattle.slot_heap.proofs as slot_heap
