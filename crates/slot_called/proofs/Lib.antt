-- frames that begin
pub mod Framed
-- room for the frame
pub mod Tested
-- what the code comes to
pub mod Called
-- the definition, part by part
pub mod Parts
-- the step
pub mod Steps
-- libraries that the crates above name through this one
pub use Rattle.slot_held.proofs as slot_held
