-- tables that are alike
pub mod Alike
-- code without packages in it
pub mod Flat
-- the tables at loops
pub mod Steady
-- anonymous access types
pub mod Kept
