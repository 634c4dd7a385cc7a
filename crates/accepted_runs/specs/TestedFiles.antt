-- what parsed files without a fault of names and of typing give to runs, types and frames
pub mod RunTables
-- what the tests say of a program
pub mod Tested
