-- what is read of numbers and words
pub mod Values
pub mod WordTables
-- how the cut of a text goes on after its first piece, its positions, and what stands last
pub mod Cuts
pub mod Bounds
pub mod TokenLists
pub mod Found
