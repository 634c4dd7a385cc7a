-- points of code
pub mod Points
-- expressions, sources, strings
pub mod Flags
pub mod Values
pub mod Sources
pub mod Images
pub mod Strings
-- statements and bodies
pub mod Statements
pub mod Calls
pub mod Bodies
-- programs, and the law
pub mod Laid
pub mod Numbers
pub mod Main
