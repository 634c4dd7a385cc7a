pub mod Trees
pub mod Nodes
-- libraries that the crates above name through this one
pub use Rattle.place_names.specs as place_names
pub use Rattle.spark_base.specs as spark_base
