-- what a path brings, and what the trees say where no work is left
pub mod Along
pub mod Numbers
pub mod Exact
-- carries, their number, and the beginning
pub mod Moves
pub mod Work
pub mod Carried
pub mod Debt
pub mod Turned
pub mod Started
-- laws of the definitions
pub mod Globals
pub mod Listed
