-- the main procedure begins
pub mod Begins
-- where a run starts
pub mod Starts
