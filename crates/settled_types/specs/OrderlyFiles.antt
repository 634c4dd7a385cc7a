pub mod Regions
pub mod Numbered
pub mod Ended
pub mod Apart
