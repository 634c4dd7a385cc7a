pub mod Never
pub mod Assigning
pub mod Framed
pub mod Moved
pub mod Cells
pub mod Frees
pub mod Ends
