-- positions that are words
pub mod Words
-- how many tokens texts have
pub mod Tokens
