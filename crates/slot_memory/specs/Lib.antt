-- what the public contracts rest on
pub mod Cells
pub mod Memory
pub mod Spots
pub mod Answers
pub mod Moves
-- steps that stop
pub mod Given
