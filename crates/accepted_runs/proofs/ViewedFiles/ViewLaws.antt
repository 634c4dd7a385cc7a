-- which instruction declares what
pub mod Constructors
pub mod Acts
pub mod Reports
pub mod Enclosing
pub mod Inner
pub mod Same
pub mod Calls
pub mod Packages
pub mod Facts
pub mod Formals
pub mod Passing
pub mod Valued
pub mod Waiting
pub mod Scoped
pub mod Own
pub mod Points
-- what only sees, and what it keeps
pub mod Borrowing
pub mod Sees
pub mod Changed
pub mod Back
pub mod Fixed
-- all of it
pub mod Traversals
pub mod Ready
