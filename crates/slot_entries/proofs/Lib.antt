-- what stands in frames
pub mod RoomWords
-- frames that begin and end
pub mod Entries
