-- what the end of a call comes to
pub mod Ends
