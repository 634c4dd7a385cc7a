-- where a run starts
pub mod Started
-- what a step comes to where the run goes on
pub mod Led
-- where no value was taken
pub mod Idle
