-- Who owns a cell, and when a state is well owned (docs/RUN.md, "Owners").
use Rattle.std.specs.Prelude.{◌≡◌, ◌≤◌, ◌⊎◌, ℕ, Bool, true, false, not, ◌&&◌, ◌==◌, List, [], ◌∷◌, flat_map, length, get_or, if◌then◌else◌}
use Rattle.flow_paths.specs.spark_base.Lists.{Has}
use Rattle.flow_paths.specs.place_names.declared.act.Mode.{Mode}
use Rattle.flow_paths.specs.place_names.declared.act.Mode.TheVariants as mode
use Rattle.flow_paths.specs.type_definitions.Entries.{integer}
use Rattle.flow_paths.specs.Objects.{Typing, object_at, is_formal}
use Rattle.machine.specs.Words.{Cell, access_offsets}
use Rattle.machine.specs.Memory.{Slot, OfVariable, fresh, no_slot, cell, slots_at}
use Rattle.machine.specs.States.{Waiting, Frame, Leak, State}

-- What holds words: the variable of a frame and an object; a value that waits, by how many have
-- waited longer; or the cell with a number.
pub data Holder : Type 0 where
  InVariable : ℕ → ℕ → Holder
  InWaiting : ℕ → Holder
  InCell : ℕ → Holder

-- The values that wait, those of the innermost frame and the latest ones first.
abbrev pub waiting_in : State → List Waiting
waiting_in state = flat_map (λ (f : Frame). f.waits) state.frames

abbrev pub no_value : Waiting
no_value = record { of = integer; words = [] }

abbrev pub waiting_at : List Waiting → ℕ → Waiting
waiting_at [] k = no_value
waiting_at (v ∷ rest) k = if k == length rest then v else waiting_at rest k

abbrev pub value_at : State → ℕ → Waiting
value_at state k = waiting_at (waiting_in state) k

abbrev pub holder_type : Typing → State → Holder → ℕ
holder_type s state (InVariable frame x) = (object_at s x).of
holder_type s state (InWaiting k) = (value_at state k).of
holder_type s state (InCell n) = (cell state.memory n).of

abbrev pub holder_slots : Typing → State → Holder → List Slot
holder_slots s state (InVariable frame x) = slots_at s state.memory (OfVariable frame x)
holder_slots s state (InWaiting k) = fresh (value_at state k).words
holder_slots s state (InCell n) = (cell state.memory n).slots

abbrev pub is_in : Mode → Bool
is_in mode.In = true
is_in _ = false

-- A formal of mode `in` owns nothing, and neither does a freed cell.
abbrev pub is_in_formal : Typing → ℕ → Bool
is_in_formal s x = is_formal s x && is_in (object_at s x).mode

abbrev pub may_own : Typing → State → Holder → Bool
may_own s state (InVariable frame x) = not (is_in_formal s x)
may_own s state (InWaiting k) = true
may_own s state (InCell n) = not (cell state.memory n).freed

-- A word of a named access type that has the number of a cell and isn't gone owns the cell.
abbrev pub owned : ℕ → Slot
owned n = record { word = Cell n; gone = false }

pub record Owns (s : Typing) (state : State) (h : Holder) (at n : ℕ) : Type 0 where
  pub may : may_own s state h ≡ true
  pub access : Has (access_offsets s.table (holder_type s state h)) at
  pub holds : get_or (holder_slots s state h) at no_slot ≡ owned n

abbrev pub IsLeaked : State → ℕ → Type 0
IsLeaked state n = (leak : Leak) × Has state.leaks leak × (leak.number ≡ n)

pub record HasOneOwner (s : Typing) (state : State) (n : ℕ) : Type 0 where
  pub holder : Holder
  pub at : ℕ
  pub owns : Owns s state holder at n
  pub only : (h : Holder) (o : ℕ) → Owns s state h o n → (h ≡ holder) × (o ≡ at)

-- The path from a cell to its owner, to the cell of that owner, and so on ends: at a variable, at a
-- value that waits, or at a leaked cell.
pub data IsHeld (s : Typing) (state : State) : ℕ → Type 0 where
  leaked : (n : ℕ) → IsLeaked state n → IsHeld s state n
  by_variable : (n at frame x : ℕ) → Owns s state (InVariable frame x) at n → IsHeld s state n
  by_waiting : (n at k : ℕ) → Owns s state (InWaiting k) at n → IsHeld s state n
  by_cell : (n at c : ℕ) → Owns s state (InCell c) at n → IsHeld s state c → IsHeld s state n

-- Each cell is freed, or leaked, or has one owner; and each that isn't freed is held.
pub record WellOwned (s : Typing) (state : State) : Type 0 where
  pub each : (n : ℕ) → 1 ≤ n → n ≤ length state.memory.cells
      → ((cell state.memory n).freed ≡ true) ⊎ (IsLeaked state n ⊎ HasOneOwner s state n)
  pub held : (n : ℕ) → 1 ≤ n → n ≤ length state.memory.cells → (cell state.memory n).freed ≡ false → IsHeld s state n
