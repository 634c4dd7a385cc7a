-- what the public contracts rest on
pub mod PrintedReports
pub mod Gains
-- what comparisons promise
pub mod Total
