pub mod Sums
pub mod Begins
pub mod Steps
pub mod BareLengths
pub mod NotPrepared
pub mod Dressed
