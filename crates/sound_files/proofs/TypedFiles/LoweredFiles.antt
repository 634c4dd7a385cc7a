-- points of code, and what they give room
pub mod Each
pub mod Opened
pub mod Uses
pub mod Rooms
pub mod Apart
-- the package objects
pub mod Packages
-- the law
pub mod Placed
-- and programs of resolved code
pub mod Programs
