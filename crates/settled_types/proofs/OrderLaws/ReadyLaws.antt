pub mod Elaborated
pub mod Subs
pub mod Returned
pub mod Actuals
pub mod Ready
