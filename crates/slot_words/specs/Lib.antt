-- what the contracts rest on
pub mod Reading
