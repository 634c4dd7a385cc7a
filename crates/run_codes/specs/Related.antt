-- Which words of the executor stand for the memory of the machine.
--
-- What stands for access values and cells is told by `PointsTo`, `IsMarked` and `CellStands` alone.
use Rattle.std.specs.Prelude.{◌≡◌, ◌⊎◌, ◌≤◌, ◌<◌, ℕ, zero, suc, ◌+◌, Bool, true, false, ◌&&◌, ◌==◌, IsTrue, List, [], ◌∷◌, ◌++◌, map, filter, flat_map, length, take, drop, get_or, slice_get, Some, ℤ, pos, negsuc, unsigned_abs}
use Rattle.machine.specs.spark_base.Lists.{Has}
use Rattle.kept_cells.specs.run_values.declared.value.Value.{Value}
use Rattle.kept_cells.specs.run_values.Values.{kind}
use Rattle.kept_cells.specs.run_values.Arithmetic.{is_integer}
use Rattle.kept_cells.specs.Cells.{Cell as StoredCell}
use Rattle.machine.specs.type_definitions.declared.table.Shape.TheVariants as shape
use Rattle.machine.specs.type_definitions.declared.table.Component.{Component}
use Rattle.machine.specs.type_definitions.Types.{Table, shape_of, span, words}
use Rattle.machine.specs.type_definitions.Entries.{integer}
use Rattle.machine.specs.flow_paths.Objects.{Typing, object_at, is_package_object}
use Rattle.machine.specs.Words.{Word, Int, Enumerated, Null, Cell, access_offsets}
use Rattle.machine.specs.Typed.{Sort, Whole, Position, Pointer, sorts, repeated_sorts, same_designated}
use Rattle.machine.specs.Memory.{Memory, Slot, Place, HeapCell, cell, slots_at, fresh, live_words, OfVariable, OfCell}
use Rattle.machine.specs.Evaluate.{Here, Now, Evaluated, Done, heap_words}
use Rattle.machine.specs.Evaluate as machine
use Rattle.run_codes.specs.Codes as codes
use Rattle.run_codes.specs.Flat.{Flat, Got, Given, Stops, Broken, Stop, Raises, Traps, kind_of, word_of, words_in, most_cells, Spot}
use Rattle.run_codes.specs.Flat as flat
use Rattle.run_codes.specs.Lowered.{Site, offset_of, package_offset, words_before_value}

-- ---- words

-- The types of the cells that were made, the first one first.
abbrev pub types : Memory → List ℕ
types m = map (λ (c : HeapCell). c.of) m.cells

-- The cell with a number from 0 has words of the sorts of the designated type.
pub record Designates (table : Table) (made : List ℕ) (d n : ℕ) : Type 0 where
  pub within : n < length made
  pub sorts : sorts table (get_or made n integer) ≡ sorts table d

abbrev pub PointsTo : Table → List ℕ → ℕ → Word → ℕ → Type 0
PointsTo table made d w zero = w ≡ Null
PointsTo table made d w (suc n) = (w ≡ Cell (suc n)) × Designates table made d n

-- A word of a sort has this value.
abbrev pub Stands : Table → List ℕ → Sort → Word → ℤ → Type 0
Stands table made Whole w z = (w ≡ Int z) × IsTrue (is_integer z)
Stands table made Position w z = (w ≡ Enumerated (unsigned_abs z)) × (z ≡ pos (unsigned_abs z)) × IsTrue (is_integer z)
Stands table made (Pointer d) w z = PointsTo table made d w (unsigned_abs z)

-- The number of a cell has a minus where it is gone.
abbrev pub IsMarked : Sort → Bool → ℤ → Type 0
IsMarked (Pointer d) gone (pos zero) = Unit {0}
IsMarked (Pointer d) gone (pos (suc n)) = gone ≡ false
IsMarked (Pointer d) gone (negsuc n) = gone ≡ true
IsMarked s gone z = Unit {0}

abbrev pub SlotStands : Table → List ℕ → Sort → Slot → ℤ → Type 0
SlotStands table made s x z = Stands table made s x.word z × IsMarked s x.gone z

-- The slots begin with words of these sorts, for which these stand.
abbrev pub AllStand : Table → List ℕ → List Sort → List Slot → List ℤ → Type 0
AllStand table made [] xs zs = Unit {0}
AllStand table made (s ∷ all) (x ∷ xs) (z ∷ zs) = SlotStands table made s x z × AllStand table made all xs zs
AllStand table made (s ∷ all) _ _ = ⊥

-- A value of these sorts.
pub record IsValue (table : Table) (made : List ℕ) (all : List Sort) (ws : List Word) (zs : List ℤ) : Type 0 where
  pub stand : AllStand table made all (fresh ws) zs
  pub words : length ws ≡ length all
  pub numbers : length zs ≡ length all

-- ---- cells

-- Those of a cell have the kinds of these sorts.
abbrev pub AllKinds : List Sort → List Value → Type 0
AllKinds [] vs = Unit {0}
AllKinds (s ∷ all) (v ∷ vs) = (kind v ≡ kind_of s) × AllKinds all vs
AllKinds (s ∷ all) [] = ⊥

pub record CellStands (table : Table) (made : List ℕ) (c : HeapCell) (k : StoredCell) : Type 0 where
  pub words : AllStand table made (sorts table c.of) c.slots (words_in k.words)
  pub kinds : AllKinds (sorts table c.of) k.words
  pub size : length c.slots ≡ length k.words
  pub room : length k.words ≡ length (sorts table c.of)
  pub small : length k.words ≤ heap_words
  pub freed : c.freed ≡ k.freed

-- Each cell that was made is in the store.
abbrev pub HaveCells : Table → Memory → Flat → Type 0
HaveCells table m f =
    (n : ℕ) → n < length m.cells → (k : StoredCell) × (slice_get f.cells n ≡ Some k) × CellStands table (types m) (cell m (suc n)) k

-- What is counted is what the machine has.
pub record Counted (m : Memory) (f : Flat) : Type 0 where
  pub made : length f.cells ≡ length m.cells
  pub few : length m.cells ≤ most_cells
  pub live : f.live ≡ live_words m
  pub freed : f.freed ≡ length (filter (λ (c : HeapCell). c.freed) m.cells)

-- ---- what is known of a table of types

-- No type has more words.
abbrev pub most_words : ℕ
most_words = 65536

pub record IsTable (table : Table) : Type 0 where
  pub whole : (t : ℕ) (low high : ℤ) → shape_of table t ≡ shape.Whole low high → sorts table t ≡ Whole ∷ []
  pub listed : (t low high : ℕ) → (literals : _) → shape_of table t ≡ shape.Listed literals low high → sorts table t ≡ Position ∷ []
  pub access : (t d : ℕ) (constant named : Bool) → shape_of table t ≡ shape.Access d constant named → sorts table t ≡ Pointer d ∷ []
  pub fields : (t : ℕ) (components : List Component) → shape_of table t ≡ shape.Fields components
      → sorts table t ≡ flat_map (λ (c : Component). sorts table c.of) components
  pub elements : (t element : ℕ) (low high : ℤ) → shape_of table t ≡ shape.Elements low high element
      → sorts table t ≡ repeated_sorts (span low high) (sorts table element)
  pub same : (t u : ℕ) → same_designated table t u ≡ true → sorts table t ≡ sorts table u
  pub small : (t : ℕ) → words table t ≤ most_words
  pub accesses : (t o : ℕ) → Has (access_offsets table t) o → (d : ℕ) × (slice_get (sorts table t) o ≡ Some (Pointer d))

-- ---- what an evaluation goes by

-- The objects of a site in a frame, the machine's memory and the values that the point takes, and the flat
-- memory.
pub record Seen : Type 0 where
  pub site : Site
  pub frame : ℕ
  pub memory : Memory
  pub waits : List (List Word)
  pub flat : Flat

abbrev pub table : Seen → Table
table e = e.site.typing.table

abbrev pub here : Seen → Here
here e = record { typing = e.site.typing; frame = e.frame; rest = e.flat.rest }

-- So many values were taken.
abbrev pub now : Seen → ℕ → Now
now e k = record { memory = e.memory; waits = drop k e.waits }

abbrev pub Stand : Seen → List Sort → List Slot → List ℤ → Type 0
Stand e all xs zs = AllStand (table e) (types e.memory) all xs zs

-- An object lies from an index of the stack on: in the frame, or among those of packages.
pub record LiesOwn (e : Seen) (frame x start : ℕ) : Type 0 where
  pub at : ℕ
  pub there : offset_of e.site x ≡ Some at
  pub own : is_package_object e.site.typing x ≡ false
  pub runs : frame ≡ e.frame
  pub begins : start ≡ e.flat.base + at

pub record LiesInPackages (e : Seen) (frame x start : ℕ) : Type 0 where
  pub there : package_offset e.site x ≡ Some start
  pub packages : is_package_object e.site.typing x ≡ true
  pub first : frame ≡ 0

abbrev pub LiesIn : Seen → ℕ → ℕ → ℕ → Type 0
LiesIn e frame x start = LiesOwn e frame x start ⊎ LiesInPackages e frame x start

-- What is read is there: the objects of the frame and of packages, the cells, the values that wait.
pub record IsSeen (e : Seen) : Type 0 where
  pub laws : IsTable (table e)
  pub own : (x at : ℕ) → offset_of e.site x ≡ Some at → is_package_object e.site.typing x ≡ false
      → Stand e (sorts (table e) (object_at e.site.typing x).of) (slots_at e.site.typing e.memory (OfVariable e.frame x)) (drop (e.flat.base + at) e.flat.stack)
  pub packages : (x at : ℕ) → package_offset e.site x ≡ Some at → is_package_object e.site.typing x ≡ true
      → Stand e (sorts (table e) (object_at e.site.typing x).of) (slots_at e.site.typing e.memory (OfVariable 0 x)) (drop at e.flat.stack)
  pub room : (frame x start : ℕ) → LiesIn e frame x start
      → start + length (sorts (table e) (object_at e.site.typing x).of) ≤ length e.flat.stack
  pub cells : HaveCells (table e) e.memory e.flat
  pub few : length e.memory.cells ≤ most_cells
  pub waits : (k t : ℕ) → slice_get e.site.takes k ≡ Some t
      → IsValue (table e) (types e.memory) (sorts (table e) t) (get_or e.waits k []) (take (words (table e) t) (drop (words_before_value e.site k) e.flat.waits))

-- ---- results

-- The machine stops as well, with the memory that it had. What only reads wants no memory.
abbrev pub Stopped : {A : Type 0} → Memory → Stop → Evaluated A → Type 0
Stopped m (Raises x) ev = (n : Now) × (ev ≡ machine.Raises x n) × (n.memory ≡ m)
Stopped m (Traps t) ev = (n : Now) × (ev ≡ machine.Traps t n) × (n.memory ≡ m)
Stopped m flat.Memory ev = ⊥

-- The executor gives a word of this sort where the machine gives it, after so many values were taken, and
-- stops where that stops.
abbrev pub Same : Seen → Sort → ℕ → Evaluated (List Word) → Got ℤ → Type 0
Same e s k ev (Given z) = (w : Word) × (ev ≡ Done (w ∷ []) (now e k)) × Stands (table e) (types e.memory) s w z
Same e s k ev (Stops stop) = Stopped e.memory stop ev
Same e s k ev Broken = ⊥

-- ---- where places lie

-- Sorts stand at an offset among others.
pub record IsSplit (all : List Sort) (offset : ℕ) (part : List Sort) : Type 0 where
  pub front : List Sort
  pub rest : List Sort
  pub is : all ≡ front ++ (part ++ rest)
  pub long : length front ≡ offset

-- A place of the machine, with a type, is a part of an object from this index of the stack on.
pub record InObject (e : Seen) (p : Place) (t n : ℕ) : Type 0 where
  pub frame : ℕ
  pub object : ℕ
  pub start : ℕ
  pub lies : LiesIn e frame object start
  pub base : p.base ≡ OfVariable frame object
  pub at : n ≡ start + p.at
  pub split : IsSplit (sorts (table e) (object_at e.site.typing object).of) p.at (sorts (table e) t)

-- The same of a cell with a number from 0.
pub record InHeap (e : Seen) (p : Place) (t n o : ℕ) : Type 0 where
  pub base : p.base ≡ OfCell (suc n)
  pub at : o ≡ p.at
  pub within : n < length e.memory.cells
  pub split : IsSplit (sorts (table e) (cell e.memory (suc n)).of) p.at (sorts (table e) t)

abbrev pub IsFrom : Seen → Place → ℕ → Spot → Type 0
IsFrom e p t (flat.InStack n) = InObject e p t n
IsFrom e p t (flat.InCell n o) = InHeap e p t n o

-- ---- places

-- A place of the machine with this type, which is this spot, and whose words stand in these.
pub record IsPlace (e : Seen) (k t : ℕ) (w : Spot) (zs : List ℤ) (ev : Evaluated Place) : Type 0 where
  pub p : Place
  pub gives : ev ≡ Done p (now e k)
  pub of : p.of ≡ t
  pub stand : Stand e (sorts (table e) t) (drop p.at (slots_at e.site.typing e.memory p.base)) zs
  pub from : IsFrom e p t w

abbrev pub IsTouch : Seen → Bool → ℕ → ℕ → Spot → List ℤ → Evaluated Place → Type 0
IsTouch e true k t w zs ev = Stopped e.memory (Traps machine.Touched) ev
IsTouch e false k t w zs ev = IsPlace e k t w zs ev

-- The same in the cell n of the list, from an offset on, or a touch of it where it is freed.
pub record InCell (e : Seen) (k t n o : ℕ) (ev : Evaluated Place) : Type 0 where
  pub c : StoredCell
  pub there : slice_get e.flat.cells n ≡ Some c
  pub within : n < length e.memory.cells
  pub small : length c.words ≤ heap_words
  pub inside : o + length (sorts (table e) t) ≤ length c.words
  pub kinds : AllKinds (sorts (table e) t) (drop o c.words)
  pub leads : IsTouch e c.freed k t (flat.InCell n o) (drop o (words_in c.words)) ev

abbrev pub IsDesignated : Seen → ℕ → ℕ → ℕ → ℕ → Evaluated Place → Type 0
IsDesignated e zero k t o ev = Stopped e.memory flat.constraint ev
IsDesignated e (suc n) k t o ev = InCell e k t n o ev

abbrev pub IsBehind : Seen → Got ℤ → ℕ → ℕ → ℕ → Evaluated Place → Type 0
IsBehind e (Given z) k t o ev = IsDesignated e (unsigned_abs z) k t o ev
IsBehind e (Stops stop) k t o ev = Stopped e.memory stop ev
IsBehind e Broken k t o ev = ⊥

-- A place of the lowering, whose own index is a number, is one of the machine.
abbrev pub Leads : Seen → codes.Place → ℕ → ℕ → ℕ → Evaluated Place → Type 0
Leads e (codes.InFrame at i) o k t ev =
    IsPlace e k t (flat.InStack (e.flat.base + at + o)) (drop (e.flat.base + at + o) e.flat.stack) ev
Leads e (codes.InPackages at i) o k t ev = IsPlace e k t (flat.InStack (at + o)) (drop (at + o) e.flat.stack) ev
Leads e (codes.Behind p at i) o k t ev = IsBehind e (flat.word e.flat p) k t (at + o) ev

-- What stands at a spot: words of the stack, or of a cell that isn't freed.
pub record InLive (e : Seen) (t n o : ℕ) (zs : List ℤ) : Type 0 where
  pub c : StoredCell
  pub there : slice_get e.flat.cells n ≡ Some c
  pub live : c.freed ≡ false
  pub small : length c.words ≤ heap_words
  pub inside : o + length (sorts (table e) t) ≤ length c.words
  pub kinds : AllKinds (sorts (table e) t) (drop o c.words)
  pub words : zs ≡ drop o (words_in c.words)

abbrev pub IsThere : Seen → ℕ → Spot → List ℤ → Type 0
IsThere e t (flat.InStack n) zs = zs ≡ drop n e.flat.stack
IsThere e t (flat.InCell n o) zs = InLive e t n o zs

-- The spot of a place is that of the machine's, or both stop.
abbrev pub SpotSame : Seen → ℕ → ℕ → Evaluated Place → Got Spot → Type 0
SpotSame e k t ev (Given w) = (zs : List ℤ) × IsPlace e k t w zs ev × IsThere e t w zs
SpotSame e k t ev (Stops s) = Stopped e.memory s ev
SpotSame e k t ev Broken = ⊥

-- ---- all of the memory

-- An object of a frame that lies from an index of the stack on.
pub record Lying : Type 0 where
  pub frame : ℕ
  pub object : ℕ
  pub at : ℕ

abbrev pub lying_sorts : Typing → Lying → List Sort
lying_sorts s l = sorts s.table (object_at s l.object).of

pub record Related (s : Typing) (all : List Lying) (m : Memory) (f : Flat) : Type 0 where
  pub objects : (l : Lying) → Has all l
      → AllStand s.table (types m) (lying_sorts s l) (slots_at s m (OfVariable l.frame l.object)) (drop l.at f.stack)
  pub cells : HaveCells s.table m f
  pub counted : Counted m f

-- One object lies before another one.
abbrev pub IsBefore : Typing → Lying → Lying → Type 0
IsBefore s l k = l.at + length (lying_sorts s l) ≤ k.at

abbrev pub IsSame : Lying → Lying → Type 0
IsSame l k = (l.frame ≡ k.frame) × (l.object ≡ k.object) × (l.at ≡ k.at)

-- Objects lie in the stack, and no two share a word.
pub record AreApart (s : Typing) (all : List Lying) (n : ℕ) : Type 0 where
  pub within : (l : Lying) → Has all l → l.at + length (lying_sorts s l) ≤ n
  pub apart : (l k : Lying) → Has all l → Has all k
      → IsSame l k ⊎ ((((l.frame == k.frame) && (l.object == k.object)) ≡ false) × (IsBefore s l k ⊎ IsBefore s k l))

-- The objects of a site lie in the stack: those of its frame, and those of packages.
pub record IsSited (c : Site) (frame base : ℕ) (all : List Lying) : Type 0 where
  pub own : (x at : ℕ) → offset_of c x ≡ Some at → is_package_object c.typing x ≡ false → Has all (record { frame = frame; object = x; at = base + at })
  pub packages : (x at : ℕ) → package_offset c x ≡ Some at → is_package_object c.typing x ≡ true → Has all (record { frame = 0; object = x; at = at })
