-- parts by steps, and where they stand
pub mod Parts
