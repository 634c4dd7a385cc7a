pub mod Types
pub mod Faults
pub mod Entries
pub mod Names
pub mod Statics
pub mod Expressions
pub mod Statements
pub mod Gathered
pub mod Declarations
pub mod Whole
pub mod Refusals
-- libraries that the crates above name through this one
pub use Rattle.resolved_tree.specs as resolved_tree
pub use Rattle.resolved_tree.specs.place_names
pub use Rattle.resolved_tree.specs.spark_base
