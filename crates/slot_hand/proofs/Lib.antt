-- what is appended step by step
pub mod Appended
-- cells that are made of words
pub mod Making
-- leak checks
pub mod Checks
-- leak checks by offsets
pub mod Pointers
