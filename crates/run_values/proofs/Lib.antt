pub mod Division
pub mod Numbers
pub mod Found
