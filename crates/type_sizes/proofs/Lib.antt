-- laws
pub mod Within
pub mod Contexts
pub mod Sound
pub mod Gathering
pub mod Limits
-- what the functions inside need
pub mod AccessParts
pub mod Sized
