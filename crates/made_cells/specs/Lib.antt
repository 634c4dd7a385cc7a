-- the cells that a step made
pub mod Since
