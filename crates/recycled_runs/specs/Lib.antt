-- facts stay exact, and null may stand in moved places
pub mod ViewedFacts
-- what a run leaves in such a heap
pub mod RecycledCells
