-- facts and marks
pub mod Lacks
-- what each path has just before an act
pub mod CalledActs
pub mod Along
pub mod Excused
-- the lines of subprograms, and their order
pub mod Telling
pub mod Ordered
-- there is no other plan
pub mod Unique
-- its lines, one by one
pub mod Each
