-- What a memory keeps, and where a place of the machine stands.
use Rattle.std.specs.Prelude.{◌≡◌, ℕ, ◌≤◌, Bool, true, List, length, get_or}
use Rattle.machine.specs.type_definitions.declared.table.Shape.TheVariants as shape
use Rattle.machine.specs.type_definitions.Types.{Table, shape_of, words, full, is_scalar, is_owning, owns_of}
use Rattle.machine.specs.flow_paths.Objects.{Typing, object_at}
use Rattle.machine.specs.Words as machine
use Rattle.machine.specs.Memory.{Memory, Base, OfVariable, OfCell, Place, variable_slots, cell, no_slot}
use Rattle.machine.specs.States.{Waiting}
pub use Rattle.soundness.specs.TypedLaws.Needed.{Matches}
use Rattle.soundness.specs.OwnedWays.Ways.{Step, Loc, OfRoot}
use Rattle.soundness.specs.OwnedWays.Ways as ways
use Rattle.soundness.specs.PartOffsets.Parts.{type_in, offset_in, has_part}
use Rattle.soundness.specs.Seen.{Content, content, trunk, steps_in}

abbrev pub IsCell : Typing → Memory → ℕ → ℕ → Type 0
IsCell s m d n = (1 ≤ n) × (n ≤ length m.cells) × Matches s.table d (cell m n).of

-- Whether a type owns goes by its definition.
abbrev pub OwnsByShape : Table → Type 0
OwnsByShape table = (t : ℕ) → is_owning table t ≡ owns_of (is_owning table) (shape_of table t)

-- Access values designate cells of their types.
abbrev pub Points : Typing → Memory → Content → Type 0
Points s m c =
    (p : List Step) (d : ℕ) (constant named : Bool) (n : ℕ) → has_part s.table c.of p ≡ true
    → shape_of s.table (type_in s.table c.of p) ≡ shape.Access d constant named
    → (get_or c.slots (offset_in s.table c.of p) no_slot).word ≡ machine.Cell n → IsCell s m d n

pub record Kept (s : Typing) (m : Memory) (hands : List Waiting) : Type 0 where
  pub variables : (f x : ℕ) → length (variable_slots s f x m.variables) ≡ words s.table (object_at s x).of
  pub cells : (n : ℕ) → 1 ≤ n → n ≤ length m.cells → length (cell m n).slots ≡ words s.table (cell m n).of
  pub points : (l : Loc) → Points s m (content s m hands l)

-- ---- places

abbrev pub loc_of : Base → Loc
loc_of (OfVariable f x) = OfRoot (ways.OfVariable f x)
loc_of (OfCell n) = ways.OfCell n

abbrev pub IsMade : Memory → Base → Type 0
IsMade m (OfVariable f x) = Unit {0}
IsMade m (OfCell n) = (1 ≤ n) × (n ≤ length m.cells)

-- A place of the machine is a location.
pub record Spot (s : Typing) (m : Memory) (hands : List Waiting) (k : Place) (l : Loc) : Type 0 where
  pub base : trunk l ≡ loc_of k.base
  pub made : IsMade m k.base
  pub at : k.at ≡ offset_in s.table (content s m hands (trunk l)).of (steps_in l)
  pub there : has_part s.table (content s m hands (trunk l)).of (steps_in l) ≡ true
  pub of : Matches s.table k.of (type_in s.table (content s m hands (trunk l)).of (steps_in l))

-- A place in a variable, and of a scalar type. Where it stands doesn't go by what is in memory.
pub record IsFixed (s : Typing) (k : Place) : Type 0 where
  pub frame : ℕ
  pub object : ℕ
  pub steps : List Step
  pub base : k.base ≡ OfVariable frame object
  pub there : has_part s.table (object_at s object).of steps ≡ true
  pub at : k.at ≡ offset_in s.table (object_at s object).of steps
  pub of : Matches s.table k.of (type_in s.table (object_at s object).of steps)
  pub scalar : is_scalar (full s.table k.of) ≡ true
