-- What the variables of borrowers, observers and formals that own nothing have, and which types may
-- be those of views.
use Rattle.std.specs.Prelude.{◌≡◌, ℕ, Bool, true, false, not, ◌&&◌, ◌||◌, ◌==◌, List, [], ◌∷◌, Some, get_or, is_some}
use Rattle.std.specs.List.{list_any}
use Rattle.machine.specs.place_names.declared.selector.Sel.TheVariants.{Deref}
use Rattle.machine.specs.place_names.declared.act.Mode.TheVariants.{In}
use Rattle.machine.specs.place_names.Names.{Name, extend}
use Rattle.machine.specs.place_names.declared.act.Act.{Act}
use Rattle.machine.specs.place_names.declared.act.Act.TheVariants.{Move, Write, Free, Actual}
use Rattle.machine.specs.type_definitions.declared.table.Shape.TheVariants as shape
use Rattle.machine.specs.type_definitions.declared.judgement.View.{View}
use Rattle.machine.specs.type_definitions.declared.judgement.View.TheVariants as view
use Rattle.machine.specs.type_definitions.Types.{Table, shape_of, is_nil}
use Rattle.machine.specs.Owners.{is_in_formal}
use Rattle.machine.specs.flow_paths.Objects.{Signature, Typing, object_at, is_anonymous, is_named_access, is_observer, view_of}
use Rattle.machine.specs.Words.{Word, Cell, component_type, element_type}
use Rattle.machine.specs.Memory.{Memory, variable_slots, no_slot}
use Rattle.soundness.specs.OwnedWays.Ways.{Step, OfVariable, OfHand, Way, Object, Lost, Into, All, Named}
use Rattle.soundness.specs.OwnedLoans.Views.{Views, Lifted, InPart}
use Rattle.soundness.specs.PartOffsets.Parts.{type_in, offset_in, has_part}
use Rattle.soundness.specs.Seen.{home, is_view_formal}

-- No anonymous access type.
abbrev pub IsNamed : Table → ℕ → Type 0
IsNamed table t = (d : ℕ) (c n : Bool) → shape_of table t ≡ shape.Access d c n → n ≡ true

-- Anonymous access types are those of objects alone: no component, no element and nothing
-- designated is of one.
pub record PartsAreNamed (table : Table) : Type 0 where
  pub component : (t i : ℕ) → IsNamed table (component_type table t i)
  pub element : (t : ℕ) → IsNamed table (element_type table t)
  pub designated : (t d : ℕ) (c n : Bool) → shape_of table t ≡ shape.Access d c n → IsNamed table d

-- What sees a cell that it doesn't own: an object of an anonymous access type, and a formal that
-- owns nothing though its type does.
abbrev pub is_view : Typing → ℕ → Bool
is_view s x = is_anonymous (view_of s x) || is_view_formal s x

-- Such a formal that isn't of an access type: its parts see cells.
abbrev pub is_access : View → Bool
is_access (view.Access designated constant named) = true
is_access _ = false

abbrev pub is_bundle : Typing → ℕ → Bool
is_bundle s x = is_view_formal s x && not (is_access (view_of s x))

-- Such a formal, whether its type owns or is an anonymous access type.
abbrev pub is_given : Typing → ℕ → Bool
is_given s x = is_view_formal s x || (is_in_formal s x && is_anonymous (view_of s x))

-- A formal of a procedure lends what it designates: of a named access type, it is changed through.
abbrev pub is_of_procedure : ℕ → Signature → Bool
is_of_procedure x sub = not (is_some sub.result) && list_any (λ y. y == x) sub.formals

abbrev pub is_exclusive : Typing → ℕ → Bool
is_exclusive s x = is_named_access (view_of s x) && list_any (is_of_procedure x) s.subs

-- Nothing is changed through observers and other such formals.
abbrev pub sees_only : Typing → ℕ → Bool
sees_only s x = is_observer s x || (is_given s x && not (is_exclusive s x))

-- Which objects only see is told by a function: observers do, and formals that nothing is lent to.
pub record Seeing (s : Typing) (sees : ℕ → Bool) : Type 0 where
  pub observers : (x : ℕ) → is_observer s x ≡ true → sees x ≡ true
  pub views : (x : ℕ) → sees x ≡ true → is_view s x ≡ true
  pub lends : (x : ℕ) → is_given s x ≡ true → sees x ≡ false → is_exclusive s x ≡ true
  pub changes : (x : ℕ) → is_given s x ≡ true → is_exclusive s x ≡ true → sees x ≡ false

-- Nor is such a formal itself changed.
abbrev pub is_fixed : Typing → (ℕ → Bool) → Name → Bool
is_fixed s sees m = sees m.root || (is_given s m.root && is_nil m.sels)

-- A way begins at what owns: at a variable that is no such formal, or at a hand.
abbrev pub IsOwners : Typing → Way → Type 0
IsOwners s (Object (OfVariable f x)) = is_view_formal s x ≡ false
IsOwners s (Object (OfHand h)) = Unit {0}
IsOwners s (Lost n) = ⊥
IsOwners s (Into w i) = IsOwners s w
IsOwners s (All w) = IsOwners s w

abbrev pub IsAccess : Typing → ℕ → Type 0
IsAccess s x = (d : ℕ) × (c : Bool) × (n : Bool) × (shape_of s.table (object_at s x).of ≡ shape.Access d c n)

-- The word of an access part of a variable.
abbrev pub part_word : Typing → ℕ → Memory → ℕ → List Step → Word
part_word s frame m x p = (get_or (variable_slots s (home s frame x) x m.variables) (offset_in s.table (object_at s x).of p) no_slot).word

pub record PartsHold (s : Typing) (sees : ℕ → Bool) (frame : ℕ) (v : Views) (m : Memory) : Type 0 where
  pub held : (x : ℕ) (p : List Step) (d : ℕ) (c n : Bool) (k : ℕ) → is_bundle s x ≡ true → has_part s.table (object_at s x).of p ≡ true
      → shape_of s.table (type_in s.table (object_at s x).of p) ≡ shape.Access d c n → part_word s frame m x p ≡ Cell k
      → (w : Way) × (v.part_way x p ≡ Some w) × (v.part_cell x p ≡ k)
  pub only : (x : ℕ) (p : List Step) (w : Way) → v.part_way x p ≡ Some w → is_bundle s x ≡ true
  pub owners : (x : ℕ) (p : List Step) (w : Way) → v.part_way x p ≡ Some w → IsOwners s w
  pub looks : (x : ℕ) → is_bundle s x ≡ true → sees x ≡ true

-- A view is of an access type, or has parts of access types. One whose word is the number of a cell has a value, and its way
-- is one of owners to the cell; no other objects are views. A borrower was taken from a name. So it is of each part.
pub record Holds (s : Typing) (sees : ℕ → Bool) (frame : ℕ) (v : Views) (m : Memory) : Type 0 where
  pub held : (x n : ℕ) → is_view s x ≡ true → is_bundle s x ≡ false
      → (get_or (variable_slots s (home s frame x) x m.variables) 0 no_slot).word ≡ Cell n
      → (w : Way) × (v.way x ≡ Some w) × (v.cell x ≡ n)
  pub only : (x : ℕ) (w : Way) → v.way x ≡ Some w → is_view s x ≡ true
  pub owners : (x : ℕ) (w : Way) → v.way x ≡ Some w → IsOwners s w
  pub access : (x : ℕ) → is_view s x ≡ true → is_bundle s x ≡ false → IsAccess s x
  pub own : (x : ℕ) (w : Way) → v.way x ≡ Some w → sees x ≡ false → is_given s x ≡ false → Named (home s frame) (v.up x)
  -- what was taken from a name of the frame, and is no observer, is changed through
  pub taken : (x : ℕ) (w : Way) → v.way x ≡ Some w → Named (home s frame) (v.up x) → is_observer s x ≡ false → sees x ≡ false
  pub parts : PartsHold s sees frame v m

-- A name that is rooted in a view goes on from its way, or from that of a part of it.
abbrev pub GoesBy : Typing → Views → ℕ → Way → Type 0
GoesBy s v y u = (is_bundle s y ≡ false → is_view s y ≡ true → (l : Lifted v u) × (l.object ≡ y)) × (is_bundle s y ≡ true → InPart v u)

-- What is moved, written or freed isn't fixed, nor is what is designated by what is lent.
abbrev pub KeepsObserved : (Name → Bool) → Act → Type 0
KeepsObserved fixed (Move m parts) = fixed m ≡ false
KeepsObserved fixed (Write m) = fixed m ≡ false
KeepsObserved fixed (Free m) = fixed m ≡ false
KeepsObserved fixed (Actual m In owning true) = fixed (extend m (Deref ∷ [])) ≡ false
KeepsObserved fixed _ = Unit {0}

abbrev pub AllKeep : (Name → Bool) → List Act → Type 0
AllKeep fixed [] = Unit {0}
AllKeep fixed (a ∷ acts) = KeepsObserved fixed a × AllKeep fixed acts
