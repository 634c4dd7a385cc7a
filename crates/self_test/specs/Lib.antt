-- what the public contract rests on
pub mod Summaries
-- what the functions inside promise each other
pub mod Runs
-- libraries that the crates above name through this one
pub use Rattle.run_command.specs as run_command
