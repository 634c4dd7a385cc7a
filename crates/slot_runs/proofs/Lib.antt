-- steps don't look at what was there before
pub mod Since
-- what is owed to sinks
pub mod Owed
-- what steps and tellings keep of a run
pub mod Kept
-- what steps of which nothing is told lead on to
pub mod Gone
