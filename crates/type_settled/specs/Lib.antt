-- what the functions inside promise each other
pub mod Holding
pub mod Measures
pub mod Orders
pub mod Owners
pub mod Ranks
pub mod Reach
pub mod Rings
pub mod Skips
