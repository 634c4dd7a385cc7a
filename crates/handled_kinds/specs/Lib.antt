pub mod Kinds
pub mod Stacks
pub mod Turns
