-- what is read, one after the other
pub mod Gots
-- words of cells, and of stacks
pub mod Named
-- none that is looked at is gone
pub mod Kept
-- codes
pub mod Words
-- places, and what stands there
pub mod Places
pub mod Standing
pub mod Fit
-- memories without their marks
pub mod Unmarked
-- lists of words in which some are replaced
pub mod Lists
-- what changes in the stack
pub mod Stacks
-- the sizes of cells
pub mod Sizes
-- what changes in cells, and the row of their numbers
pub mod Rows
pub mod Cells
pub mod Moves
-- what is read names cells that were made
pub mod Names
-- copies and moves
pub mod There
-- what a point has moved so far
pub mod Marking
pub mod Copies
-- values
pub mod Bases
pub mod Outcomes
pub mod Filled
-- frames that are pushed and filled in the course of a point
pub mod Framed
-- what is copied back as a call ends
pub mod Backs
-- leak checks, and stores at spots
pub mod Leaks
-- values that go to places
pub mod Assigned
-- cells that are released
pub mod Released
-- libraries that the crates above name through this one
pub use Rattle.numbered_cells.proofs.run_codes
pub use Rattle.numbered_cells.proofs as numbered_cells
pub use Rattle.numbered_cells.proofs.slot_heap
