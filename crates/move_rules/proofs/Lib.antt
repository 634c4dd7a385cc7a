-- what the functions' proofs cite
pub mod Above
pub mod Untouched
