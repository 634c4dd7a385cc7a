-- What a call takes from places of its caller, and gives back when it ends.
--
-- While the call is in progress, the formal owns what the place had, and the place has no number.
use Rattle.std.specs.Prelude.{◌≡◌, ◌⊎◌, ◌<◌, ℕ, true, false, List, [], ◌∷◌, ◌++◌, suc, Bool}
use Rattle.machine.specs.spark_base.Lists.{Has}
use Rattle.machine.specs.place_names.declared.fact.Fact.{Fact}
use Rattle.machine.specs.place_names.declared.fact.Fact.TheVariants.{Moved, Lent}
use Rattle.machine.specs.place_names.declared.rule.Loan.{Loan}
use Rattle.machine.specs.place_names.Names.{Name as PlaceName, overlaps, covers}
use Rattle.machine.specs.type_definitions.Types.{full, is_scalar, is_owning}
use Rattle.machine.specs.flow_paths.Objects.{Typing, object_at, designated, is_package_object}
use Rattle.machine.specs.flow_paths.Scopes.{is_within}
use Rattle.machine.specs.Memory.{Memory, Place}
use Rattle.machine.specs.Memory as memory
use Rattle.machine.specs.States.{Return}
use Rattle.soundness.specs.OwnedWays.Ways.{Step, Loc, OfVariable, OfRoot, OfCell, Way, Object, Lost, Into, All, Held, Gone, Under, Named, along, base_of, name_of, number_of, object_of}
use Rattle.soundness.specs.PartOffsets.Parts.{type_in, offset_in, has_part}
use Rattle.soundness.specs.Seen.{content, word_in, home, is_view_formal}
use Rattle.soundness.specs.Typed.{Matches, IsFixed}
use Rattle.soundness.specs.OwnedLoans.Views.{Views, expand}
use Rattle.soundness.specs.ViewedSoundness.Holds.{IsNamed, is_bundle}

-- A way is one of these, or goes on from it to a part.
abbrev pub TakenBy : List Way → Way → Type 0
TakenBy ways w = (to : Way) × Has ways to × (p : List Step) × (w ≡ along to p)

-- ---- places in cells

-- A cell in which the place of an actual stands: its name in the frame of the call, the way of owners that
-- the name stands for, and its number.
pub record Lodge : Type 0 where
  pub name : Way
  pub way : Way
  pub cell : ℕ

-- The steps of a way within the variable or the cell that it leads to, and the type of that one.
abbrev pub last_steps : Way → List Step
last_steps (Into w i) = i ∷ last_steps w
last_steps w = []

abbrev pub trunk_type : Typing → Way → ℕ
trunk_type s (Object r) = (object_at s (object_of r)).of
trunk_type s (Lost n) = 0
trunk_type s (Into w i) = trunk_type s w
trunk_type s (All w) = designated s.table (type_in s.table (trunk_type s w) (last_steps w))

-- A part of one of these cells is in one of these places.
abbrev pub IsTakenIn : List Lodge → List Way → ℕ → List Step → Type 0
IsTakenIn cells ways n p = (c : Lodge) × Has cells c × (c.cell ≡ n) × TakenBy ways (along c.way p)

-- In the variables of these frames, but in these places: what has a number then had it before, and what is gone
-- stays gone. So it is in cells.
pub record AreCarried (s : Typing) (these : ℕ → Type 0) (cells : List Lodge) (ways : List Way) (m n : Memory) : Type 0 where
  pub held : (f x : ℕ) (p : List Step) (c : ℕ) → these f → (TakenBy ways (along (Object (OfVariable f x)) p) → ⊥)
      → word_in s.table (content s n [] (OfRoot (OfVariable f x))) p ≡ Held c → word_in s.table (content s m [] (OfRoot (OfVariable f x))) p ≡ Held c
  pub gone : (f x : ℕ) (p : List Step) → these f → (TakenBy ways (along (Object (OfVariable f x)) p) → ⊥)
      → word_in s.table (content s m [] (OfRoot (OfVariable f x))) p ≡ Gone → word_in s.table (content s n [] (OfRoot (OfVariable f x))) p ≡ Gone
  pub in_cells : (k : ℕ) (p : List Step) (c : ℕ) → (IsTakenIn cells ways k p → ⊥)
      → word_in s.table (content s n [] (OfCell k)) p ≡ Held c → word_in s.table (content s m [] (OfCell k)) p ≡ Held c
  pub gone_cells : (k : ℕ) (p : List Step) → (IsTakenIn cells ways k p → ⊥)
      → word_in s.table (content s m [] (OfCell k)) p ≡ Gone → word_in s.table (content s n [] (OfCell k)) p ≡ Gone

-- A place in a variable of a frame, or in a package object, or in a cell: its way, which begins at such a variable, or at
-- one of a frame below that isn't that of the package objects. Where it stands there doesn't go by what is in memory.
abbrev pub IsVariableAt : ℕ → ℕ → Place → Way → Loc → Type 0
IsVariableAt f x k trunk start = (trunk ≡ Object (OfVariable f x)) × (start ≡ OfRoot (OfVariable f x)) × (k.base ≡ memory.OfVariable f x)

abbrev pub IsOwnAt : Typing → ℕ → ℕ → ℕ → Place → Way → Loc → Type 0
IsOwnAt s depth f x k trunk start =
    (trunk ≡ Object (OfVariable f x)) × (start ≡ OfRoot (OfVariable f x)) × (k.base ≡ memory.OfVariable f x) × (f ≡ home s depth x) × (is_view_formal s x ≡ false)

abbrev pub IsCellAt : Place → Loc → Type 0
IsCellAt k start = (n : ℕ) × (start ≡ OfCell n) × (k.base ≡ memory.OfCell n)

pub record IsInside (s : Typing) (depth : ℕ) (k : Place) (to : Way) : Type 0 where
  pub object : ℕ
  pub steps : List Step
  pub frame : ℕ
  pub begins : (frame ≡ home s depth object) ⊎ ((0 < frame) × (frame < suc depth))
  pub trunk : Way
  pub start : Loc
  pub stands : IsOwnAt s depth frame object k trunk start ⊎ IsCellAt k start
  pub root : base_of trunk ≡ OfRoot (OfVariable frame object)
  pub way : to ≡ along trunk steps
  pub there : has_part s.table (trunk_type s trunk) steps ≡ true
  pub at : k.at ≡ offset_in s.table (trunk_type s trunk) steps
  pub of : Matches s.table k.of (type_in s.table (trunk_type s trunk) steps)
  pub named : IsNamed s.table k.of

-- A place in such a cell. Where it stands there doesn't go by what is in memory.
pub record IsLodged (s : Typing) (k : Place) (c : Lodge) : Type 0 where
  pub base : k.base ≡ memory.OfCell c.cell
  pub steps : List Step
  pub there : has_part s.table (trunk_type s c.way) steps ≡ true
  pub at : k.at ≡ offset_in s.table (trunk_type s c.way) steps
  pub of : Matches s.table k.of (type_in s.table (trunk_type s c.way) steps)

-- A scalar place in a variable, which is that of no formal with parts that see, or in such a cell.
abbrev pub IsPlainPlace : Typing → List Lodge → Place → Type 0
IsPlainPlace s cells k =
    ((fixed : IsFixed s k) × (is_bundle s fixed.object ≡ false)) ⊎ ((c : Lodge) × Has cells c × IsLodged s k c × (is_scalar (full s.table k.of) ≡ true))

abbrev pub IsCopiedTo : Typing → List Lodge → Return → Type 0
IsCopiedTo s cells r = (is_scalar (full s.table (object_at s r.formal).of) ≡ true) × IsPlainPlace s cells r.to

-- ---- what is taken

-- If it is a cell, it is one of these.
abbrev pub IsAmong : List Lodge → Loc → Way → Type 0
IsAmong cells start trunk = (n : ℕ) → start ≡ OfCell n → (c : Lodge) × Has cells c × (c.way ≡ trunk) × (c.cell ≡ n)

-- What is passed for a formal that isn't scalar and is copied back: such a place, whose variable is in
-- scope if it may own, and whose value the formal may have. A name of the frame stands for its way, which isn't lent,
-- and of which no part is known to be moved.
pub record IsPassedOn (s : Typing) (sees : ℕ → Bool) (cells : List Lodge) (depth : ℕ) (v : Views) (facts : List Fact) (scope : List ℕ) (x : ℕ) (k : Place) (to : Way) : Type 0 where
  pub inside : IsInside s depth k to
  pub name : Way
  pub called : Named (home s depth) name
  pub leads : expand v name ≡ to
  pub plain : sees (number_of name) ≡ false
  pub among : IsAmong cells inside.start inside.trunk
  pub fits : Matches s.table k.of (object_at s x).of
  pub formal : is_package_object s x ≡ false
  pub owner : is_view_formal s x ≡ false
  pub many : is_scalar (full s.table (object_at s x).of) ≡ false
  pub within : IsOwnAt s depth inside.frame inside.object k inside.trunk inside.start → is_package_object s inside.object ≡ false
      → is_owning s.table (object_at s inside.object).of ≡ true → is_within inside.object scope ≡ true
  pub unlent : (l : Loan) (h : ℕ) (n : PlaceName) → Has facts (Lent l h n) → overlaps n (name_of name) ≡ true → ⊥
  pub cleared : (n : PlaceName) → Has facts (Moved n) → covers (name_of name) n ≡ true → ⊥

-- No number stands in the place.
abbrev pub IsBare : (s : Typing) (depth : ℕ) (k : Place) (to : Way) → Memory → IsInside s depth k to → Type 0
IsBare s depth k to m inside =
    (p : List Step) (c : ℕ) → word_in s.table (content s m [] inside.start) (p ++ inside.steps) ≡ Held c → ⊥

abbrev pub IsTaken : Typing → (ℕ → Bool) → List Lodge → Memory → ℕ → Views → List Fact → List ℕ → Return → Way → Type 0
IsTaken s sees cells m depth v facts scope r to =
    (passed : IsPassedOn s sees cells depth v facts scope r.formal r.to to) × IsBare s depth r.to to m passed.inside

-- None of these ways begins another one, or is begun by it.
abbrev pub IsApartFrom : Way → List Way → Type 0
IsApartFrom to ways = (k : Way) → Has ways k → (Under to k → ⊥) × (Under k to → ⊥)

-- Other formals with a number differ.
abbrev pub IsAnother : ℕ → List Return → Type 0
IsAnother x rest = (r : Return) → Has rest r → r.formal ≡ x → ⊥

-- Formals of scalar types are copied back to scalar places, which owners don't see; the others to places
-- that were taken, one after the other.
abbrev pub AreTaken : Typing → (ℕ → Bool) → List Lodge → Memory → ℕ → Views → List Fact → List ℕ → List Return → List Way → Type 0
AreTaken s sees cells m depth v facts scope [] ways = ways ≡ []
AreTaken s sees cells m depth v facts scope (r ∷ rest) [] = IsCopiedTo s cells r × AreTaken s sees cells m depth v facts scope rest []
AreTaken s sees cells m depth v facts scope (r ∷ rest) (to ∷ ways) =
    (IsCopiedTo s cells r × AreTaken s sees cells m depth v facts scope rest (to ∷ ways))
    ⊎ (IsTaken s sees cells m depth v facts scope r to × IsApartFrom to ways × IsAnother r.formal rest × AreTaken s sees cells m depth v facts scope rest ways)
