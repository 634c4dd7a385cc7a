-- the parts of a run, and where they stand
pub mod Stages
-- what a step comes to
pub mod Steps
-- where a run goes on
pub mod Goes
-- where a run begins
pub mod Begins
-- ways in which a point may be done
pub mod Ways
