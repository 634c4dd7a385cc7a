-- steps of the machine that end runs
pub mod Ended
-- those over the heap
pub mod Kept
-- the heap's cells before a step
pub mod Standing
-- whole runs
pub mod Runs
-- the law for these
pub mod Ready
-- two heaps by hand
pub mod Examples
