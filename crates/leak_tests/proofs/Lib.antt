pub mod Sources
pub mod Straight
pub mod Excused
pub mod Lost
pub mod Kept
