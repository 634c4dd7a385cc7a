-- What is passed for actuals that are copied back to: places in variables, and in cells.
use Rattle.std.proofs.Common.{◌≡◌, ◌⊎◌, inl, inr, ℕ, true, false, List, [], ◌∷◌, ◌++◌, Bool}
use Rattle.machine.specs.place_names.declared.act.Mode.{Mode}
use Rattle.machine.specs.place_names.declared.act.Mode.TheVariants as mode
use Rattle.machine.specs.place_names.declared.fact.Fact.{Fact}
use Rattle.machine.specs.type_definitions.Types.{full, is_scalar}
use Rattle.machine.specs.typed_tree.Trees.{TypedTree, Name, More}
use Rattle.machine.specs.flow_paths.Objects.{Typing, object_at}
use Rattle.machine.specs.flow_paths.Names.{name_of}
use Rattle.machine.specs.Words as machine
use Rattle.machine.specs.Memory.{Memory, Place}
use Rattle.machine.specs.Calls.{Passed, Value, From, To}
use Rattle.machine.specs.Owners.{is_in}
use Rattle.soundness.specs.OwnedWays.Ways.{Way, Named, Reaches}
use Rattle.soundness.specs.OwnedWays.Ways as ways
use Rattle.soundness.specs.Seen.{home}
use Rattle.soundness.specs.Typed.{Matches, IsFixed}
use Rattle.soundness.specs.OwnedLoans.Views.{Views, expand}
use Rattle.soundness.proofs.OwnedLoans.Safe.{Open}
use Rattle.soundness.specs.ViewedSoundness.Holds.{is_bundle}
use Rattle.viewed_steps.specs.Ready.{is_shown_type}
use Rattle.viewed_steps.specs.Taken.{Lodge, IsLodged, IsInside, IsOwnAt}
use Rattle.viewed_steps.specs.Sound.{IsScalarObject}
use Rattle.viewed_steps.proofs.Outs.{Out}
use Rattle.viewed_steps.proofs.Entered.{IsTyped, IsFit}

-- ---- what is passed

-- A place in a variable of a frame: the way of the name.
abbrev pub IsOwnPut : Typing → ℕ → ℕ → TypedTree → Place → Type 0
IsOwnPut s depth x (Name p y path u) k =
    (to : Way) × (inside : IsInside s depth k to) × (ways.name_of to ≡ name_of y path) × (inside.object ≡ y) × Matches s.table k.of (object_at s x).of
    × IsOwnAt s depth inside.frame inside.object k inside.trunk inside.start
IsOwnPut s depth x e k = ⊥

-- A place in a cell: a name of the cell begins that of the actual, which is rooted in an object that isn't an
-- observer.
pub record IsInCell (s : Typing) (sees : ℕ → Bool) (depth : ℕ) (v : Views) (view : ways.View) (y : ℕ) (path : TypedTree) (k : Place) (c : Lodge) : Type 0 where
  pub lodged : IsLodged s k c
  pub whole : Way
  pub named : Named (home s depth) whole
  pub called : ways.name_of whole ≡ name_of y path
  pub begins : ways.Under c.name whole
  pub deep : (r : ways.Root) → c.name ≡ ways.Object r → ⊥
  pub plain : sees y ≡ false
  pub leads : expand v c.name ≡ c.way
  pub reaches : Reaches view c.way (ways.OfCell c.cell)

-- A scalar place in a variable, which is that of no formal with parts that see, or in such a cell.
abbrev pub IsPlainAt : Typing → (ℕ → Bool) → ℕ → Views → ways.View → TypedTree → Place → Type 0
IsPlainAt s sees depth v view (Name p y path u) k =
    ((fixed : IsFixed s k) × (is_bundle s fixed.object ≡ false)) ⊎ ((c : Lodge) × IsInCell s sees depth v view y path k c × (is_scalar (full s.table k.of) ≡ true))
IsPlainAt s sees depth v view e k = ⊥

-- Another place in a cell: the name of the cell, and what it stands for.
pub record IsHoused (s : Typing) (sees : ℕ → Bool) (depth : ℕ) (v : Views) (view : ways.View) (x y : ℕ) (path : TypedTree) (k : Place) : Type 0 where
  pub to : Way
  pub inside : IsInside s depth k to
  pub name : Way
  pub named : Named (home s depth) name
  pub called : ways.name_of name ≡ name_of y path
  pub means : expand v name ≡ to
  pub fits : Matches s.table k.of (object_at s x).of
  pub front : Way
  pub begins : ways.Under front name
  pub cell : ℕ
  pub start : inside.start ≡ ways.OfCell cell
  pub plain : sees y ≡ false
  pub deep : (r : ways.Root) → front ≡ ways.Object r → ⊥
  pub leads : expand v front ≡ inside.trunk
  pub reaches : Reaches view inside.trunk (ways.OfCell cell)

abbrev pub IsHousedPut : Typing → (ℕ → Bool) → ℕ → Views → ways.View → ℕ → TypedTree → Place → Type 0
IsHousedPut s sees depth v view x (Name p y path u) k = IsHoused s sees depth v view x y path k
IsHousedPut s sees depth v view x e k = ⊥

-- Its cell.
abbrev pub house_of : (s : Typing) (sees : ℕ → Bool) (depth : ℕ) (v : Views) (view : ways.View) (x y : ℕ) (path : TypedTree) (k : Place) → IsHoused s sees depth v view x y path k → Lodge
house_of s sees depth v view x y path k h = record { name = h.front; way = (h.inside).trunk; cell = h.cell }

-- A scalar place, or another place in a variable of the frame.
abbrev pub IsPlaceLaid : Typing → (ℕ → Bool) → ℕ → Views → ways.View → ℕ → TypedTree → Place → Type 0
IsPlaceLaid s sees depth v view x e k =
    (IsScalarObject s x × IsPlainAt s sees depth v view e k) ⊎ ((is_scalar (full s.table (object_at s x).of) ≡ false) × IsOwnPut s depth x e k)

-- Such a place, or one in a cell.
abbrev pub IsBackLaid : Typing → (ℕ → Bool) → ℕ → Views → ways.View → ℕ → TypedTree → Place → Type 0
IsBackLaid s sees depth v view x e k =
    IsPlaceLaid s sees depth v view x e k ⊎ ((is_scalar (full s.table (object_at s x).of) ≡ false) × IsHousedPut s sees depth v view x e k)

-- A value of the type of the formal, or an access value.
abbrev pub IsValueLaid : Typing → Memory → ℕ → List machine.Word → Type 0
IsValueLaid s m x ws =
    (is_shown_type s x ≡ false → IsFit s m (object_at s x).of ws)
    × (is_shown_type s x ≡ true → is_bundle s x ≡ false → (z : machine.Word) × (ws ≡ z ∷ []) × IsTyped s m x z)
    × (is_bundle s x ≡ true → IsFit s m (object_at s x).of ws)

-- By the mode: such a value, or a place.
abbrev pub IsLaidOne : Typing → (ℕ → Bool) → Memory → ℕ → Views → ways.View → ℕ → Mode → TypedTree → Passed → Type 0
IsLaidOne s sees m depth v view x mode.In e (Value ws) = IsValueLaid s m x ws
IsLaidOne s sees m depth v view x mode.Out e (To k) = IsBackLaid s sees depth v view x e k
IsLaidOne s sees m depth v view x mode.InOut e (From k) = IsBackLaid s sees depth v view x e k
IsLaidOne s sees m depth v view x how e a = ⊥

abbrev pub AreLaidOut : Typing → (ℕ → Bool) → Memory → ℕ → Views → ways.View → List ℕ → TypedTree → List Passed → Type 0
AreLaidOut s sees m depth v view (x ∷ formals) (More e rest) (a ∷ passed) =
    IsLaidOne s sees m depth v view x (object_at s x).mode e a × AreLaidOut s sees m depth v view formals rest passed
AreLaidOut s sees m depth v view (x ∷ formals) (More e rest) [] = ⊥
AreLaidOut s sees m depth v view formals actuals passed = passed ≡ []

-- Those that are emptied.
abbrev pub own_out : (s : Typing) (depth x : ℕ) (e : TypedTree) (k : Place) → IsOwnPut s depth x e k → List Out
own_out s depth x (Name p y path u) k own = record { way = own.0; place = k; pos = p } ∷ []
own_out s depth x e k own = []

abbrev pub place_out : (s : Typing) (sees : ℕ → Bool) (depth : ℕ) (v : Views) (view : ways.View) (x : ℕ) (e : TypedTree) (k : Place) → IsPlaceLaid s sees depth v view x e k → List Out
place_out s sees depth v view x e k (inl plain) = []
place_out s sees depth v view x e k (inr own) = own_out s depth x e k own.1

abbrev pub housed_out : (s : Typing) (sees : ℕ → Bool) (depth : ℕ) (v : Views) (view : ways.View) (x : ℕ) (e : TypedTree) (k : Place) → IsHousedPut s sees depth v view x e k → List Out
housed_out s sees depth v view x (Name p y path u) k h = record { way = h.to; place = k; pos = p } ∷ []
housed_out s sees depth v view x e k never = []

abbrev pub back_out : (s : Typing) (sees : ℕ → Bool) (depth : ℕ) (v : Views) (view : ways.View) (x : ℕ) (e : TypedTree) (k : Place) → IsBackLaid s sees depth v view x e k → List Out
back_out s sees depth v view x e k (inl laid) = place_out s sees depth v view x e k laid
back_out s sees depth v view x e k (inr housed) = housed_out s sees depth v view x e k housed.1

abbrev pub out_of : (s : Typing) (sees : ℕ → Bool) (m : Memory) (depth : ℕ) (v : Views) (view : ways.View) (x : ℕ) (how : Mode) (e : TypedTree) (a : Passed) → IsLaidOne s sees m depth v view x how e a → List Out
out_of s sees m depth v view x mode.Out e (To k) laid = back_out s sees depth v view x e k laid
out_of s sees m depth v view x how e a laid = []

abbrev pub outs_of : (s : Typing) (sees : ℕ → Bool) (m : Memory) (depth : ℕ) (v : Views) (view : ways.View) (formals : List ℕ) (actuals : TypedTree) (passed : List Passed)
    → AreLaidOut s sees m depth v view formals actuals passed → List Out
outs_of s sees m depth v view (x ∷ formals) (More e rest) (a ∷ passed) laid =
    out_of s sees m depth v view x (object_at s x).mode e a laid.0 ++ outs_of s sees m depth v view formals rest passed laid.1
outs_of s sees m depth v view formals actuals passed laid = []

-- The cells that there are.
abbrev pub plain_cell : (s : Typing) (sees : ℕ → Bool) (depth : ℕ) (v : Views) (view : ways.View) (e : TypedTree) (k : Place) → IsPlainAt s sees depth v view e k → List Lodge
plain_cell s sees depth v view (Name p y path u) k (inl fixed) = []
plain_cell s sees depth v view (Name p y path u) k (inr lodged) = lodged.0 ∷ []
plain_cell s sees depth v view e k never = []

abbrev pub place_cell : (s : Typing) (sees : ℕ → Bool) (depth : ℕ) (v : Views) (view : ways.View) (x : ℕ) (e : TypedTree) (k : Place) → IsPlaceLaid s sees depth v view x e k → List Lodge
place_cell s sees depth v view x e k (inl plain) = plain_cell s sees depth v view e k plain.1
place_cell s sees depth v view x e k (inr own) = []

abbrev pub back_cell : (s : Typing) (sees : ℕ → Bool) (depth : ℕ) (v : Views) (view : ways.View) (x : ℕ) (e : TypedTree) (k : Place) → IsBackLaid s sees depth v view x e k → List Lodge
back_cell s sees depth v view x e k (inl laid) = place_cell s sees depth v view x e k laid
back_cell s sees depth v view x (Name p y path u) k (inr housed) = house_of s sees depth v view x y path k housed.1 ∷ []
back_cell s sees depth v view x e k (inr never) = []

abbrev pub cell_of : (s : Typing) (sees : ℕ → Bool) (m : Memory) (depth : ℕ) (v : Views) (view : ways.View) (x : ℕ) (how : Mode) (e : TypedTree) (a : Passed) → IsLaidOne s sees m depth v view x how e a → List Lodge
cell_of s sees m depth v view x mode.Out e (To k) laid = back_cell s sees depth v view x e k laid
cell_of s sees m depth v view x mode.InOut e (From k) laid = back_cell s sees depth v view x e k laid
cell_of s sees m depth v view x how e a laid = []

abbrev pub cells_of : (s : Typing) (sees : ℕ → Bool) (m : Memory) (depth : ℕ) (v : Views) (view : ways.View) (formals : List ℕ) (actuals : TypedTree) (passed : List Passed)
    → AreLaidOut s sees m depth v view formals actuals passed → List Lodge
cells_of s sees m depth v view (x ∷ formals) (More e rest) (a ∷ passed) laid =
    cell_of s sees m depth v view x (object_at s x).mode e a laid.0 ++ cells_of s sees m depth v view formals rest passed laid.1
cells_of s sees m depth v view formals actuals passed laid = []

-- ---- what is asked of an actual that is copied back to

-- It is rooted in an object through which something may change, and nothing that was moved or is borrowed leads to it.
abbrev pub IsOpenActual : Typing → (ℕ → Bool) → ℕ → List Fact → TypedTree → Type 0
IsOpenActual s sees depth facts (Name p y path u) =
    (sees y ≡ false) × ((q : Way) → Named (home s depth) q → ways.name_of q ≡ name_of y path → Open facts q)
IsOpenActual s sees depth facts e = Unit {0}

abbrev pub AreOpenActuals : Typing → (ℕ → Bool) → ℕ → List Fact → List ℕ → TypedTree → Type 0
AreOpenActuals s sees depth facts (x ∷ formals) (More e rest) = (is_in (object_at s x).mode ≡ false → IsOpenActual s sees depth facts e) × AreOpenActuals s sees depth facts formals rest
AreOpenActuals s sees depth facts formals actuals = Unit {0}
