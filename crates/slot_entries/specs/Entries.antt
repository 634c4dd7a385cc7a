-- What is kept where frames begin and end.
use Rattle.std.specs.Prelude.{◌≡◌, ◌<◌, ◌↔◌, ℕ, ◌+◌, Bool, List, [], ◌∷◌, ◌++◌, length, take, map, sum, Result, Ok, Err, IsTrue}
use Rattle.run_codes.specs.Codes.{Sub}
use Rattle.code_rows.specs.declared.stop.Stop.{Stop}
use Rattle.code_rows.specs.declared.stop.Stop.TheVariants as stop
use Rattle.slot_memory.specs.Memory.{Kept}
use Rattle.slot_frames.specs.declared.rows.Frame.{Frame}
use Rattle.slot_frames.specs.declared.rows.Return.{Return}
use Rattle.slot_frames.specs.Stacks.{Stacked}
use Rattle.slot_frames.specs.Frames.{word_at}

-- The words that count for the frame that runs and for those that wait.
abbrev pub stacked_words : Stacked → ℕ
stacked_words s = s.frame.words + sum (map (λ (f : Frame). f.words) s.outer)

-- ---- frames that begin

-- The values that wait from a number on are gone, and the frame that begins there runs.
abbrev pub entered_kept : {R : Type 0} → Stacked → ℕ → ℕ → Kept R → Kept R
entered_kept s k base m =
    let first : ℕ = word_at s.waits k (length m.waits) in
    record m { base = base; waits = take first m.waits; taken = first }

-- The frame that ran goes on at a point.
abbrev pub entered_stacked : Stacked → Sub → ℕ → ℕ → ℕ → List Return → Stacked
entered_stacked s sub k next base returns = record {
  frame = record { base = base; next = sub.first; words = sub.words; waits = length (take k s.waits); returns = length s.returns };
  outer = s.outer ++ record s.frame { next = next } ∷ [];
  waits = take k s.waits;
  returns = s.returns ++ returns;
}

-- ---- frames that end

-- The frame that runs is gone, with the values that wait in it, and another one runs.
abbrev pub left_kept : {R : Type 0} → Stacked → Frame → Kept R → Kept R
left_kept s f m =
    let first : ℕ = word_at s.waits s.frame.waits (length m.waits) in
    record m { stack = take s.frame.base m.stack; base = f.base; waits = take first m.waits; taken = first }

abbrev pub left_stacked : Stacked → Frame → List Frame → Stacked
left_stacked s f outer = record { frame = f; outer = outer; waits = take s.frame.waits s.waits; returns = take s.frame.returns s.returns }

-- A frame that waited runs. Whether others wait.
pub record IsLeft {R : Type 0} (others : Bool) (m n : Kept R) (s t : Stacked) : Type 0 where
  pub frame : Frame
  pub outer : List Frame
  pub waited : s.outer ≡ outer ++ frame ∷ []
  pub memory : n ≡ left_kept s frame m
  pub frames : t ≡ left_stacked s frame outer
  pub rest : IsTrue others ↔ (0 < length outer)

abbrev pub Leaves : {R : Type 0} → Result Bool Stop → Kept R → Kept R → Stacked → Stacked → Type 0
Leaves (Ok others) m n s t = IsLeft others m n s t
Leaves (Err e) m n s t = e ≡ stop.Memory
