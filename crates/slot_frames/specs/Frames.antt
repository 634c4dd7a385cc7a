-- The frames that rows stand for.
use Rattle.std.specs.Prelude.{◌≡◌, ◌≤◌, ℕ, zero, suc, ◌+◌, ◌-◌, Bool, true, false, List, [], ◌∷◌, ◌++◌, map, length, take, drop, reverse, slice_get, Option, Some, None, ℤ}
use Rattle.run_codes.specs.Points.{Held}
use Rattle.run_codes.specs.Points as points
use Rattle.slot_memory.specs.Spots.{spot_of}
use Rattle.slot_frames.specs.declared.rows.Frame.{Frame}
use Rattle.slot_frames.specs.declared.rows.Wait.{Wait}
use Rattle.slot_frames.specs.declared.rows.Return.{Return}
use Rattle.slot_frames.specs.Stacks.{Stacked}

-- The values that wait, the latest first; the words of all of them are given, those of the latest last.
abbrev pub held : List Wait → List ℤ → List Held
held [] zs = []
held (w ∷ ws) zs = record { of = w.of; words = drop w.first zs } ∷ held ws (take w.first zs)

-- Where the words of so many of the latest values begin, among n words.
abbrev pub first_of : ℕ → List Wait → ℕ → ℕ
first_of zero ws n = n
first_of (suc k) [] n = n
first_of (suc k) (w ∷ ws) n = first_of k ws w.first

-- The same from a number on, the oldest value first.
abbrev pub word_at : List Wait → ℕ → ℕ → ℕ
word_at ws k n = by (slice_get ws k)
  where
    by : Option Wait → ℕ
    by None = n
    by (Some w) = w.first

abbrev pub return_of : Return → points.Return
return_of r = record { at = r.at; from = r.from; to = spot_of r.to; of = r.of }

-- The frames, the innermost first: each has its part of the values that wait, and of what is copied back.
abbrev pub frames_in : List Held → List points.Return → List Frame → List points.Frame
frames_in hs rs [] = []
frames_in hs rs (f ∷ fs) =
    record { base = f.base; next = f.next; words = f.words; waits = take (length hs - f.waits) hs; returns = drop f.returns rs }
    ∷ frames_in (drop (length hs - f.waits) hs) (take f.returns rs) fs

abbrev pub frames_of : Stacked → List ℤ → List points.Frame
frames_of s zs = frames_in (held (reverse s.waits) zs) (map return_of s.returns) (s.frame ∷ reverse s.outer)

-- The words of the values that wait, the latest first, stand one after the other among so many.
abbrev pub AreLaid : List Wait → ℕ → Type 0
AreLaid [] n = n ≡ 0
AreLaid (w ∷ ws) n = (w.first ≤ n) × AreLaid ws w.first

-- So have the frames their parts, among so many values that wait and so many places.
abbrev pub AreNested : List Frame → ℕ → ℕ → Type 0
AreNested [] m n = Unit {0}
AreNested (f ∷ fs) m n = (f.waits ≤ m) × (f.returns ≤ n) × AreNested fs f.waits f.returns

pub record IsStacked (s : Stacked) (zs : List ℤ) : Type 0 where
  pub laid : AreLaid (reverse s.waits) (length zs)
  pub nested : AreNested (s.frame ∷ reverse s.outer) (length s.waits) (length s.returns)

-- From a number on, the values that wait have these types, and are those of the frame that runs.
pub record AreLatest (s : Stacked) (wanted : List ℕ) (k : ℕ) : Type 0 where
  pub count : k + length wanted ≡ length s.waits
  pub own : s.frame.waits ≤ k
  pub types : map (λ (w : Wait). w.of) (drop k s.waits) ≡ wanted

-- The frame that runs ends, with its parts, where another one waits.
abbrev pub Leaves : Stacked → Bool → Stacked → Type 0
Leaves old false new = (old.outer ≡ []) × (new ≡ old)
Leaves old true new =
    (f : Frame) × (fs : List Frame) × (old.outer ≡ fs ++ f ∷ [])
    × (new ≡ record { frame = f; outer = fs; waits = take old.frame.waits old.waits; returns = take old.frame.returns old.returns })
