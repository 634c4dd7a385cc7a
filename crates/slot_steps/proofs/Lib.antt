-- points that store one word at most
pub mod Words
-- points that raise
pub mod Falls
-- results of functions
pub mod Held
-- points that may have leak checks
pub mod Changed
pub mod Values
-- the step of a call
pub mod Called
-- the step at the end of a call
pub mod Finished
