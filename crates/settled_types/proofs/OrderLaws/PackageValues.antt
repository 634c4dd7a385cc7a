-- initial values call no function
pub mod Still
pub mod Packages
-- so there are no other points than declarations
pub mod Declared
pub mod Main
