-- what a run leaves
pub mod Cells
