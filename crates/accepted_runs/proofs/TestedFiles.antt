-- what parsed files without a fault of names and of typing give to runs, types and frames
pub mod RunTables
-- the crate itself
pub mod Fit
pub mod Formals
pub mod Subs
pub mod Rows
pub mod Main
