-- what names denote
pub mod Denoted
-- code without formals
pub mod Formless
-- the declarations of code, how they are numbered, and what is asked of the events of a text
pub mod Declarations
pub mod Counted
pub mod Followed
-- objects of the types that are indicated
pub mod Typed
