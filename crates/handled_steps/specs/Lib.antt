-- states, and what changes in them
pub mod States
-- points, steps and runs
pub mod Steps
-- what is copied back
pub mod Backs
-- states that are alike
pub mod Alike
-- what is asked of steps
pub mod Looks
-- runs from their start
pub mod Runs
-- runs over numbers after each step of which nothing is gone
pub mod Clear
-- slots and greatest counts
pub mod Greatest
pub mod Rises
