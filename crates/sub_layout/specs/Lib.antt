-- what the public contracts rest on
pub mod Dressed
pub mod Words
pub mod Subs
-- what the functions inside promise each other
pub mod Faults
