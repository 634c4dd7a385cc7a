-- runs of programs that are lowered
pub mod Runs
