-- what the code needs and comes to
pub mod Turned
-- how a run ends
pub mod Ended
-- what a step has made so far
pub mod Made
