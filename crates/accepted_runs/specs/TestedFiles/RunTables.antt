-- what is asked of the calls of a program
pub mod Calls
-- what is asked of the subprograms of a typed program
pub mod Entered
