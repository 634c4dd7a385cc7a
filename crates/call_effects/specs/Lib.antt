-- what the functions inside promise each other
pub mod Uses
pub mod Rows
pub mod Spreads
