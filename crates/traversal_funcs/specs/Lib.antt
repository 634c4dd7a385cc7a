-- what the public contract rests on
pub mod ViewReports
-- what the functions inside promise each other
pub mod Lendings
pub mod Questions
pub mod Searches
pub mod Scopes
pub mod Instructions
pub mod Sights
pub mod Exact
pub mod Lists
