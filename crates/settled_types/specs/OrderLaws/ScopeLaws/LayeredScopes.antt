-- what is asked of code, and what holds of points
pub mod Layered
pub mod Points
