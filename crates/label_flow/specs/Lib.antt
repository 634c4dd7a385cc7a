-- what is carried, and along what
pub mod Flows
-- what a worklist keeps
pub mod Searches
