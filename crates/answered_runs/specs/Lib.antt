-- what is said of `run`
pub mod Headline
pub mod Runs
-- libraries that the crates above name through this one
pub use Rattle.tool_answers.specs as tool_answers
pub use Rattle.tool_answers.specs.run_command
pub use Rattle.tool_answers.specs.self_test
