-- what tables of names answer
pub mod Tables
-- what the tables know
pub mod Stands
pub mod Sightings
pub mod Awaited
-- declarations as later stages see them
pub mod Infos
pub mod OfEvents
-- what an answer says of a fault
pub mod Judges
-- what is taken
pub mod Inputs
