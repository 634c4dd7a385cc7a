-- acts follow from instructions
pub mod PointActs
-- no two points of a subprogram have one name
pub mod Slots
pub mod PrepDiffers
pub mod PointsDiffer
-- what is in scope goes on from point to point
pub mod Held
pub mod ScopesFlow
pub mod Unwinding
pub mod StatementScopes
pub mod Entries
pub mod ScopesHold
