-- words over a heap that uses its slots again, and what changes there
pub mod Fits
pub mod Slots
pub mod Changes
-- how they follow those over numbers
pub mod Beside
-- what is asked of what is read
pub mod Looks
-- what a point has moved so far
pub mod Marks
-- values, and the same outcome
pub mod Values
pub mod Alike
-- leak checks
pub mod Leaks
-- values that go to places
pub mod Assigned
-- cells that are released
pub mod Released
-- libraries that the crates above name through this one
pub use Rattle.numbered_cells.specs.run_codes
pub use Rattle.numbered_cells.specs as numbered_cells
pub use Rattle.numbered_cells.specs.slot_heap
pub use Rattle.numbered_cells.specs.kept_cells
pub use Rattle.numbered_cells.specs.run_values
pub use Rattle.numbered_cells.specs.type_definitions
pub use Rattle.numbered_cells.specs.machine
pub use Rattle.numbered_cells.specs.spark_base
