-- what the functions' proofs cite
pub mod SameFound
-- how what facts forbid becomes one list
pub mod Gathering
