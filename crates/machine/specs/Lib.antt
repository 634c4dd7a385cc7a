-- what the public contract rests on
pub mod Words
pub mod Memory
pub mod Evaluate
pub mod States
pub mod Calls
pub mod Step
pub mod Run
pub mod Typed
pub mod Owners
-- libraries that the crates above name through this one
pub use Rattle.flow_paths.specs.typed_tree
pub use Rattle.flow_paths.specs.type_definitions
pub use Rattle.flow_paths.specs.resolved_tree
pub use Rattle.flow_paths.specs.spark_base
pub use Rattle.flow_paths.specs as flow_paths
pub use Rattle.flow_paths.specs.place_names
