-- The input of a run, as it was read.
use Rattle.std.specs.Prelude.{◌≡◌, ◌<◌, ◌≤◌, ℕ, List, length, Option, MatchOption, Vec}
use Rattle.std.specs.declared.alloc.Global.{Global}

-- All bytes, or nothing where there are more than the room.
abbrev pub IsWithin : List ℕ → ℕ → Option (Vec ℕ Global) → Type 0
IsWithin bytes room found = MatchOption found (room < length bytes) (λ text. (text.items ≡ bytes) × (length bytes ≤ room))
