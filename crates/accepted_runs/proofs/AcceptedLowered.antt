-- what `check` accepts
pub mod Rooms
pub mod Main
-- what `run` takes
pub mod Runnable
-- by what a type keeps
pub mod Kept
