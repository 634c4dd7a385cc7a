-- what the functions inside promise each other
pub mod Taken
pub mod Arounds
pub mod Stores
pub mod Choices
pub mod Defaults
pub mod Ends
pub mod Bodies
pub mod Subs
