pub mod Programs
pub mod Frames
pub mod Entered
pub mod Runs
