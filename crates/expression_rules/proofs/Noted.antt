-- The first fault of a list is that of its parts, one after the other.
pub use Rattle.type_settled.proofs.Noted.{noted_append}
