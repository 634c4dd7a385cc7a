-- values
pub mod Values
-- actuals
pub mod Actuals
-- what is freed then
pub mod Freed
