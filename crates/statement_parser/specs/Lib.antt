-- what the functions inside promise each other
pub mod InnerStatements
pub mod Parts
