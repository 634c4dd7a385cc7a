-- fronts that break no sentence
pub mod Fronts
-- a turn, and both turns
pub mod Shown
-- the laws
pub mod Main
