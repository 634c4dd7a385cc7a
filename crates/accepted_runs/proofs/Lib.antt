-- borrowers and observers of files are in order
pub mod ViewedFiles
pub mod Parsed
-- what holds of runs
pub mod Runs
-- if there is a main procedure
pub mod Views
pub mod ViewFacts
pub mod ViewNulls
-- all of it, for one run
pub mod Headline
pub mod Endings
-- of what a type keeps
pub mod Kept
-- programs of parsed files pass the tests of run_ready
pub mod TestedFiles
-- what `check` accepts is lowered and passes the tests of run_ready
pub mod AcceptedLowered
-- what `check` accepts gives the same over a heap that uses its slots again
pub mod AcceptedRecycled
-- and leaves the cells of the machine there
pub mod AcceptedCells
