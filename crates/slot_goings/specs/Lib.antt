-- what does a point
pub mod Groups
-- what points change, and where they lead
pub mod Changes
