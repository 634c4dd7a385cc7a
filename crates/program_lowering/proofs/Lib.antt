pub mod Views
pub mod Rows
pub mod Placing
pub mod Lists
pub mod Defaults
pub mod Turns
pub mod Programs
pub mod Subs
