-- what holds after small paths, and what is found there
pub mod Rows
