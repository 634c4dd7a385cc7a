-- how many literals code declares
pub mod Literals
-- what is asked of a text
pub mod Meant
