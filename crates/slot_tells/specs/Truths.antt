-- The value of an operand of a short circuit waits.
use Rattle.std.specs.Prelude.{◌≡◌, ℕ, [], ◌∷◌, ℤ, Some}
use Rattle.type_definitions.specs.Entries.{boolean}
use Rattle.code_rows.specs.Points.{next_of}
use Rattle.slot_memory.specs.Memory.{Kept}
use Rattle.slot_frames.specs.Stacks.{Stacked}
use Rattle.slot_entries.specs.Entries.{stacked_words}
use Rattle.slot_held.specs.Holds.{with_words, all_waits}
use Rattle.slot_parts.specs.declared.parts.Parts.{Parts}

-- One more value waits in the frame that runs, in place of those from the number k on, and the point n is the next one.
abbrev pub waiting_at : {R : Type 0} → Stacked → ℕ → Kept R → ℕ → ℕ → Stacked
waiting_at frames k m of n = record frames { frame = record frames.frame { next = n }; waits = all_waits frames k m of }

-- A truth waits in place of the values from the number k on, and the run goes on at a point.
pub record WaitsTruth {R : Type 0} (k : ℕ) (truth : ℤ) (n : ℕ) (old new : Parts R) : Type 0 where
  pub next : next_of n ≡ Some n
  pub memory : new.memory ≡ with_words old.frames k old.memory (truth ∷ [])
  pub frames : new.frames ≡ waiting_at old.frames k old.memory boolean n
  pub words : new.words ≡ stacked_words new.frames
  pub output : new.output.items ≡ old.output.items
  pub leaks : new.leaks.items ≡ old.leaks.items
