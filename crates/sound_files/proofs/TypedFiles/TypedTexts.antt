-- bounds of types, and successors of points
pub mod Bounds
pub mod Counts
-- the law
pub mod Main
