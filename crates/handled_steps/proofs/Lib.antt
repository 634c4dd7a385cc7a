-- lists in relation, and frames with more handles
pub mod Pairs
-- steps that stop
pub mod GivenUp
-- words of types, and frames
pub mod Tables
pub mod Frames
-- how steps begin, go on and end
pub mod Turns
-- what is read and stored
pub mod Gots
-- points
pub mod Stores
pub mod Choices
pub mod Scopes
pub mod Loops
pub mod Texts
pub mod Holds
-- calls
pub mod Moving
pub mod Passing
pub mod Calls
pub mod Finishes
-- null where something is gone
pub mod Cleared
-- steps and runs
pub mod Steps
pub mod Runs
-- counts of cells and slots
pub mod Keeping
pub mod KeepSteps
pub mod PeakSteps
pub mod Rises
