-- in an accepted program no act is forbidden by a fact before it
pub mod Accepted
-- along acts that are allowed, facts stay apart
pub mod Apart
-- both together
pub mod Paths
