-- what both sides come to
pub mod Outcomes
-- what stands for the states of the machine
pub mod States
-- what stands while a step is made
pub mod Turns
-- what frames that enter ask of a program
pub mod Frames
