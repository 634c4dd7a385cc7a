-- rows, and what is put into them
pub mod Filed
-- what nodes ask for
pub mod Asked
-- an object spreads to callers
pub mod Spreading
-- what the chains of calls have to do with it
pub mod Chains
pub mod Whole
