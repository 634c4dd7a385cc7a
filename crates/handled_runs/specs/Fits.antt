-- Words that fit their kinds.
use Rattle.std.specs.Prelude.{◌<◌, ℕ, List, get_or}
pub use Rattle.numbered_cells.specs.slot_heap.Words.{most_handles, is_slot_word, are_slot_words}

abbrev pub AreSmall : List ℕ → Type 0
AreSmall handles = (n : ℕ) → get_or handles n 0 < most_handles
