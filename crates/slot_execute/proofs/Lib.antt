-- what is told of a run may be taken apart
pub mod Codes
-- what may come of runs
pub mod Same
-- where runs start, and what they leave
pub mod Started
pub mod Left
-- runs without a step
pub mod NoSteps
