pub mod Ranks
-- what functions inside promise each other
pub mod Stages
