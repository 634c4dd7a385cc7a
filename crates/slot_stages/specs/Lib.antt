-- what is kept of a run between two steps
pub mod Stages
-- where a run goes on
pub mod Leads
