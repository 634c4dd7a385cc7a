-- what only sees
pub mod Seeing
-- what waits in frames
pub mod Awaited
-- what a call takes from places of its caller
pub mod Taken
-- what holds at each moment
pub mod Sound
-- what traversal functions give
pub mod Traversals
-- what is asked of a program so that it does
pub mod Ready
