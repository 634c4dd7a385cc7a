-- what the public contracts rest on
pub mod Bare
pub mod Spans
pub mod BarePrepared
pub mod BareLaid
pub mod BareSubs
-- what the functions inside promise each other
pub mod Sized
pub mod Tables
pub mod Layouts
