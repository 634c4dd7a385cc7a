pub mod Doing
pub mod Words
pub mod Looping
pub mod Choices
pub mod Items
pub mod Strings
pub mod Points
pub mod Reading
