-- what the definitions of runs rest on
pub mod Cells
-- libraries that the crates above name through this one
pub use Rattle.run_values.specs as run_values
