-- what the functions' proofs cite
pub mod Parts
pub mod Passes
pub mod Kept
pub mod Left
pub mod Marked
pub mod Numbered
pub mod Untouched
pub mod Touched
-- what the functions of a crate of rules cite
pub mod Tested
-- laws of the definitions
pub mod FactByFact
pub mod Effects
