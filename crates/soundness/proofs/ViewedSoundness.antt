pub mod Walks
pub mod Spared
pub mod ViewKinds
pub mod Names
pub mod Stays
pub mod Moments
pub mod Evaluated
pub mod Lifted
pub mod Hands
pub mod Fed
pub mod Stored
pub mod Viewing
pub mod Sources
pub mod Bundles
pub mod Outcomes
pub mod Lends
-- what waits for borrowers and observers
pub mod Coming
-- what formals see
pub mod Given
