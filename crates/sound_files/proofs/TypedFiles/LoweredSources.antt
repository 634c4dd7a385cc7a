-- literals are words
pub mod Readings
pub mod Trees
pub mod Statements
pub mod Few
-- the law
pub mod Main
