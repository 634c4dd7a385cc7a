-- what an accepted program with borrowers and observers gives to soundness
pub mod ViewLaws
-- the crate itself
mod Variables
pub mod Joined
pub mod Layers
pub mod Placed
pub mod Bodies
pub mod Sources
pub mod Walked
pub mod Units
pub mod Roots
pub mod Stored
pub mod Traversals
pub mod Main
pub mod Passed
pub mod Files
