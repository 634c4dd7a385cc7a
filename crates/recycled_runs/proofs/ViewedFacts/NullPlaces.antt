-- memories that agree
pub mod Lists
pub mod Memories
pub mod Only
-- what is looked at isn't gone
pub mod Places
pub mod Walks
pub mod Laws
pub mod Scalars
pub mod Evaluated
pub mod Instructions
pub mod Each
pub mod Calls
pub mod Direct
-- programs without borrowers and observers
-- typed programs
pub mod Typed
-- steps, and the law
pub mod Runs
