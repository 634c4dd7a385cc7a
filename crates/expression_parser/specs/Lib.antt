-- what the functions inside promise each other
pub mod InnerExpressions
pub mod Parts
