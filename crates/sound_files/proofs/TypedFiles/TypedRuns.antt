-- typed as the machine says it
pub mod Words
-- actuals, and what stands within expressions
pub mod Owners
pub mod Given
pub mod Actuals
pub mod Within
-- sources, strings, ranges
pub mod Views
pub mod Sources
pub mod Strings
pub mod Ranges
-- statements and bodies
pub mod Statements
pub mod Calls
pub mod Bodies
-- points, programs, and the law
pub mod Points
pub mod Laid
pub mod Main
pub mod Programs
pub mod Results
