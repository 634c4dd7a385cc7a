-- what a layout gives of each subprogram
pub mod Premises
-- what is put in, and that it is all
pub mod Putting
pub mod Complete
