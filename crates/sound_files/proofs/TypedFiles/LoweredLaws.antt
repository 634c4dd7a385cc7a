-- options, types and taken values
pub mod Found
pub mod Shapes
pub mod Takes
pub mod Fits
-- expressions, values and calls
pub mod Words
pub mod Values
pub mod Actuals
-- steps, and the law
pub mod Steps
pub mod Programs
