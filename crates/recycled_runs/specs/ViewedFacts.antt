pub mod Exact
-- the machine with null in moved places takes the same steps
pub mod NullPlaces
