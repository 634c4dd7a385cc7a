-- what the functions' proofs cite
pub mod Untouched
