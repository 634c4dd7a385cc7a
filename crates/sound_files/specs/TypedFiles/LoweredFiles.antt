-- literals and objects in typed code
pub mod Code
-- what is asked of a typed program
pub mod Arranged
