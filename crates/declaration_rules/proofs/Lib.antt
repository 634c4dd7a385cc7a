pub mod Actuals
pub mod BodyFormals
pub mod Cases
pub mod Lists
