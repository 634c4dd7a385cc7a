pub mod Settled
pub mod Files
