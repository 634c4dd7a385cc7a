pub mod Grown
pub mod Lists
-- libraries that the crates above name through this one
pub use Rattle.spark_base.proofs as spark_base
