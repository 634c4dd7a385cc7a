-- what is read of rows, which trees have calls, and which have no acts
pub mod Reading
pub mod Calls
pub mod Actless
-- nodes by their kinds
pub mod OtherNodes
-- actuals
pub mod Ways
-- names that are too deep
pub mod Deep
-- instructions by their kinds
pub mod ByInstruction
-- leak checks
pub mod DeepSpots
