pub mod Steps
pub mod Declares
pub mod Mentions
pub mod Items
pub mod Statements
pub mod Units
pub mod Main
