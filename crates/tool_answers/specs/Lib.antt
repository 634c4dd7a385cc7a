-- the commands, what is read, and what is answered
pub mod Commands
pub mod Reading
pub mod Parsing
pub mod Product
-- what is run
pub mod Runs
-- libraries that the crates above name through this one
pub use Rattle.self_test.specs.run_command as run_command
pub use Rattle.self_test.specs as self_test
