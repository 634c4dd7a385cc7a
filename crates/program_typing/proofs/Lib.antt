-- how actuals are passed
pub mod Ways
