pub mod Stacks
pub mod Stages
pub mod Work
