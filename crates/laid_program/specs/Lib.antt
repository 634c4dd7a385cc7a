-- what the public contract rests on
pub mod Layouts
pub mod Programs
