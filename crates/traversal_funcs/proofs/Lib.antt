-- truth values, what is read of rows, and scopes
pub mod Bools
pub mod Rows
pub mod Outwards
-- the sources of holders, and the search for roots
pub mod Held
pub mod Came
pub mod Found
-- roots, and what is reported
pub mod Rooted
pub mod Constant
pub mod Reported
pub mod Added
