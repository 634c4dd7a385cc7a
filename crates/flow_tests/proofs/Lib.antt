-- what resolved trees are written with, and those of the sources in data/
pub mod ResolvedTrees
pub mod Sources
-- what is compared
pub mod Flow
-- points
pub mod Straight
pub mod Called
-- laws and counts
pub mod Laws
pub mod Counts
pub mod Rules
pub mod Reported
