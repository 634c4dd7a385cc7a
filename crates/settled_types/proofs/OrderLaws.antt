-- what points have in scope, and where they lead
pub mod ScopeLaws
-- which programs are ready, by their typed code, so that soundness speaks of their runs
pub mod ReadyLaws
-- induction over code as the grammar has it
pub mod Grammar
-- typed bodies, and what the layout asks of them
pub mod Bodies
pub mod Settled
-- objects and their numbers
pub mod Numbers
pub mod Parts
pub mod Units
pub mod Apart
-- the package objects, and the main procedure
pub mod First
pub mod Mains
pub mod Faults
pub mod Starting
pub mod Unmoved
-- all of a program
pub mod Whole
pub mod Accepted
-- package objects are declared with values that call no function
pub mod PackageValues
