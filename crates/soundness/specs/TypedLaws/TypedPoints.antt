-- typed code, and points, whose instructions are as soundness needs them
pub mod Code
-- what is asked of code
pub mod Meant
