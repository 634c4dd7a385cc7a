-- what is asked of typed programs
pub mod InOrder
pub mod Program
