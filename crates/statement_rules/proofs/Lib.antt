pub mod Calls
pub mod Taken
pub mod Whole
pub mod Gaps
pub mod Steps
pub mod Swept
pub mod Apart
pub mod Doubled
