-- words of some kinds
pub mod OfKinds
-- lists of which some elements are replaced
pub mod Lists
-- heaps that are written
pub mod Heaps
-- what is kept beside the store
pub mod Keeps
-- what stands in cells
pub mod Seen
-- what stands in the stack
pub mod Stacks
-- what is moved
pub mod Settled
pub mod Settling
-- what a memory stands for
pub mod Shown
pub mod Taking
-- what is freed where a step stops
pub mod Given
pub mod Giving
