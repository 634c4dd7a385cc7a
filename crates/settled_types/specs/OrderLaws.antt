-- what points have in scope, and where they lead
pub mod ScopeLaws
-- which programs are ready, by their typed code, so that soundness speaks of their runs
pub mod ReadyLaws
-- the crate itself
pub mod Written
pub mod Placed
pub mod Orderly
-- package objects are declared with values that call no function
pub mod PackageValues
