pub mod Reading
pub mod Scalars
pub mod Places
pub mod Nested
