-- what the public contract rests on
pub mod Sites
-- what the functions inside promise each other
pub mod Numbers
pub mod Stations
pub mod Arguments
pub mod Operands
