-- the variables of views
pub mod Holds
-- the calls whose results an expression takes
pub mod Taken
