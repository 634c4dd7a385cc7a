-- what reaches a node is what some path brings there
pub mod Paths
-- a worklist finds exactly what reaches each node
pub mod Worklist
