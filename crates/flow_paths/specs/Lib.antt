-- what the public contracts rest on
pub mod Instructions
pub mod Objects
pub mod Names
pub mod Acts
pub mod Points
pub mod Prep
pub mod Layout
pub mod Laid
pub mod Stands
pub mod Limits
pub mod Paths
pub mod Effects
pub mod Views
pub mod Aliases
pub mod Printing
pub mod Reports
pub mod LeakPlan
-- laws of the points of a subprogram
pub mod Scopes
-- libraries that the crates above name through this one
pub use Rattle.typed_tree.specs as typed_tree
pub use Rattle.typed_tree.specs.type_definitions
pub use Rattle.typed_tree.specs.resolved_tree
pub use Rattle.typed_tree.specs.place_names
pub use Rattle.typed_tree.specs.spark_base
