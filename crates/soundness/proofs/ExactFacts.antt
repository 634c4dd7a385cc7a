-- over ways and locations
pub mod Steps
-- over memories
pub mod Parts
pub mod Memories
-- leak checks
pub mod Checks
-- instructions
-- frames
pub mod Frames
-- steps, and the law
pub mod Spots
pub mod Budgets
