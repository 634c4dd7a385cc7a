-- what the public contract rests on
pub mod ExpressionSpelling
pub mod Spelling
pub mod WellPlaced
pub mod FixedNames
pub mod Refusals
pub mod Positions
pub mod Lone
pub mod WordBytes
