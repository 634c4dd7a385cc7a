-- what the functions' proofs cite
pub mod Ascending
pub mod Putting
pub mod RootUses
pub mod UsesGathered
-- what facts forbid at an act, and so at the acts of all points
pub mod FoundAmong
pub mod ToldExact
-- what facts forbid at the acts of calls
pub mod CalledActs
pub mod CalledTold
-- points as control paths have them
pub mod CalledPaths
