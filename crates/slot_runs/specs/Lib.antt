-- states whose output and leaks were taken
pub mod Pasts
-- what runs stand for, and what steps come to
pub mod Turns
-- what was told of a run
pub mod Tellings
-- where a run stands
pub mod Underway
-- what is answered of a run
pub mod Answers
-- steps of which nothing is told
pub mod Goings
