-- the rows
pub mod Stacks
-- the frames that they stand for
pub mod Frames
-- the frame that runs, and those that wait
pub mod Parts
