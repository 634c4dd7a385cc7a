-- values that wait, one after the other
pub mod Waits
-- frames that are entered and left
pub mod Nested
