pub mod Grown
pub mod Lists
-- libraries that the crates above name through this one
pub use Rattle.type_definitions.proofs.spark_base
