-- what the functions' proofs cite
pub mod Ordered
-- the law of such lists
pub mod Collected
pub mod Gained
