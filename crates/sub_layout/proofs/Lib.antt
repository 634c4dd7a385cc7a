-- bare points, dressed, are those of the definitions
pub mod DressedSubs
-- what is gathered of points
pub mod DeepPoints
pub mod WordSums
pub mod Gathered
-- one subprogram
pub mod SubsOnce
