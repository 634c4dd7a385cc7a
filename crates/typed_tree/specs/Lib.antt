-- what the public contract rests on
pub mod Trees
pub mod Nodes
-- which typed trees resolved ones mean
pub mod Expressions
pub mod Statements
pub mod Programs
-- names of places as text
pub mod Printed
-- libraries that the crates above name through this one
pub use Rattle.type_definitions.specs as type_definitions
pub use Rattle.type_definitions.specs.place_names
pub use Rattle.type_definitions.specs.spark_base
pub use Rattle.type_definitions.specs.resolved_tree
