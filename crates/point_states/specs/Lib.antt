-- what the public contract rests on
pub mod PointTrees
-- what the functions inside promise each other
pub mod Labels
pub mod Carries
pub mod Debts
pub mod Turns
