-- nodes past the end
pub mod Nodes
-- names of actuals are within the limit
pub mod Shallow
-- subprograms by number, and reports of several points
pub mod Subs
-- lists in ascending order
pub mod Ascending
