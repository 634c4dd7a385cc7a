-- borrowers and observers of files are in order
pub mod ViewedFiles
pub mod Passed
pub mod Mains
pub mod Headline
-- programs of parsed files pass the tests of run_ready
pub mod TestedFiles
-- what `check` accepts is lowered and passes the tests of run_ready
pub mod AcceptedLowered
-- what `check` accepts gives the same over a heap that uses its slots again
pub mod AcceptedRecycled
