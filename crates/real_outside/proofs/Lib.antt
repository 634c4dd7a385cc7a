-- What a write in parts keeps.
pub mod Parts
