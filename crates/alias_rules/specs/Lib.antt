-- what the functions inside promise each other
pub mod Told
pub mod Steps
pub mod Order
