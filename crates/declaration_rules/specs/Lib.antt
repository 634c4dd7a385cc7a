pub mod Actuals
pub mod Formals
pub mod Making
