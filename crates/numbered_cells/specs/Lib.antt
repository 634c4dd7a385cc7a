-- cells by number, and the heap that follows them
pub mod Follows
-- slots and greatest counts
pub mod Peaks
-- libraries that the crates above name through this one
pub use Rattle.run_codes.specs as run_codes
pub use Rattle.slot_heap.specs as slot_heap
pub use Rattle.kept_cells.specs as kept_cells
pub use Rattle.run_values.specs as run_values
pub use Rattle.machine.specs.type_definitions
pub use Rattle.machine.specs as machine
pub use Rattle.machine.specs.spark_base
