-- libraries that the crates above name through this one
pub use Rattle.resolved_tree.proofs.spark_base
