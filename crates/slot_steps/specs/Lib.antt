-- libraries that the crates above name through this one
pub use Rattle.slot_tells.specs.slot_parts
