-- what each form of a tree does with names
pub mod ExpressionLevels
pub mod StatementLevels
-- the laws of visibility and of the first fault
pub mod Searches
pub mod VisibilityLaws
pub mod FaultLaws
pub mod IdentifiedLaws
