-- what is kept where frames begin and end
pub mod Entries
