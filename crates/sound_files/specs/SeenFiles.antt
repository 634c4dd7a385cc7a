-- what names denote
pub mod Uses
-- what is in scope in resolved code
pub mod Fits
-- what is known while a text is read
pub mod Reached
