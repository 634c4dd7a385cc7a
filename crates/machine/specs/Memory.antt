-- Variables and cells (docs/RUN.md, "Memory").
--
-- A word that was moved away stays where it was and is marked as gone. Cells have numbers from 1
-- on, in the order in which they are made, and keep them when they are freed.
use Rattle.std.specs.Prelude.{ℕ, zero, suc, ◌+◌, Bool, true, false, not, ◌&&◌, ◌==◌, List, [], ◌∷◌, ◌++◌, map, filter, take, drop, length, sum, get_or, nat_le, if◌then◌else◌}
use Rattle.flow_paths.specs.type_definitions.Types.{words}
use Rattle.flow_paths.specs.type_definitions.Entries.{integer}
use Rattle.flow_paths.specs.Objects.{Typing, object_at}
use Rattle.machine.specs.Words.{Word, Null, default, access_offsets}

pub record Slot : Type 0 where
  pub word : Word
  pub gone : Bool

-- A variable: its frame, counted from that of the package objects, and its object.
pub record Variable : Type 0 where
  pub frame : ℕ
  pub object : ℕ
  pub slots : List Slot

-- A cell: the type of the object that it holds.
pub record HeapCell : Type 0 where
  pub of : ℕ
  pub slots : List Slot
  pub freed : Bool

-- The greatest count of cells of a size in words that were there and not freed.
pub record Peak : Type 0 where
  pub size : ℕ
  pub count : ℕ

-- Each variable stands there once, and the first cell first.
pub record Memory : Type 0 where
  pub variables : List Variable
  pub cells : List HeapCell
  pub peaks : List Peak

-- A variable, or the cell with a number.
pub data Base : Type 0 where
  OfVariable : ℕ → ℕ → Base
  OfCell : ℕ → Base

-- Words of a type, from an offset on.
pub record Place : Type 0 where
  pub base : Base
  pub at : ℕ
  pub of : ℕ

-- ---- what stands there

abbrev pub fresh : List Word → List Slot
fresh ws = map (λ w. record { word = w; gone = false }) ws

abbrev pub is_variable : ℕ → ℕ → Variable → Bool
is_variable frame x v = (v.frame == frame) && (v.object == x)

-- What isn't declared has the words of an object without a value. No step looks at it.
abbrev pub variable_slots : Typing → ℕ → ℕ → List Variable → List Slot
variable_slots s frame x [] = fresh (default s.table (object_at s x).of)
variable_slots s frame x (v ∷ rest) = if is_variable frame x v then v.slots else variable_slots s frame x rest

abbrev pub no_cell : HeapCell
no_cell = record { of = integer; slots = []; freed = true }

-- The cells have the numbers from 1 on.
abbrev pub cell : Memory → ℕ → HeapCell
cell m zero = no_cell
cell m (suc n) = get_or m.cells n no_cell

abbrev pub slots_at : Typing → Memory → Base → List Slot
slots_at s m (OfVariable frame x) = variable_slots s frame x m.variables
slots_at s m (OfCell n) = (cell m n).slots

abbrev pub slots_of : Typing → Memory → Place → List Slot
slots_of s m p = take (words s.table p.of) (drop p.at (slots_at s m p.base))

abbrev pub words_of : Typing → Memory → Place → List Word
words_of s m p = map (λ (slot : Slot). slot.word) (slots_of s m p)

abbrev pub no_slot : Slot
no_slot = record { word = Null; gone = false }

-- ---- changes

abbrev pub with_variable : ℕ → ℕ → List Slot → List Variable → List Variable
with_variable frame x slots [] = record { frame = frame; object = x; slots = slots } ∷ []
with_variable frame x slots (v ∷ rest) =
    if is_variable frame x v then record v { slots = slots } ∷ rest else v ∷ with_variable frame x slots rest

abbrev pub at_number : {A : Type 0} → ℕ → (A → A) → List A → List A
at_number n f [] = []
at_number zero f (a ∷ rest) = f a ∷ rest
at_number (suc n) f (a ∷ rest) = a ∷ at_number n f rest

abbrev pub with_cell : ℕ → (HeapCell → HeapCell) → List HeapCell → List HeapCell
with_cell zero f cells = cells
with_cell (suc n) f cells = at_number n f cells

abbrev pub put : Base → List Slot → Memory → Memory
put (OfVariable frame x) slots m = record m { variables = with_variable frame x slots m.variables }
put (OfCell n) slots m = record m { cells = with_cell n (λ c. record c { slots = slots }) m.cells }

-- Other slots stand at a place.
abbrev pub with_slots : Typing → Place → List Slot → Memory → Memory
with_slots s p slots m =
    let all : List Slot = slots_at s m p.base in
    put p.base (take p.at all ++ slots ++ drop (p.at + length slots) all) m

-- A value is stored: nothing of it is gone.
abbrev pub stored : Typing → Place → List Word → Memory → Memory
stored s p ws m = with_slots s p (fresh ws) m

abbrev pub as_gone : Slot → Slot
as_gone s = record s { gone = true }

abbrev pub gone_at : List ℕ → List Slot → List Slot
gone_at [] slots = slots
gone_at (o ∷ rest) slots = gone_at rest (at_number o as_gone slots)

-- The access parts of a place are gone.
abbrev pub moved_out : Typing → Place → Memory → Memory
moved_out s p m = with_slots s p (gone_at (access_offsets s.table p.of) (slots_of s m p)) m

-- What was declared with this frame and object isn't there any more.
abbrev pub declared : ℕ → ℕ → List Word → Memory → Memory
declared frame x ws m = put (OfVariable frame x) (fresh ws) m

abbrev pub undeclared : ℕ → ℕ → Memory → Memory
undeclared frame x m = record m { variables = filter (λ v. not (is_variable frame x v)) m.variables }

-- The variables of a frame are removed.
abbrev pub without_frame : ℕ → Memory → Memory
without_frame frame m = record m { variables = filter (λ v. not (v.frame == frame)) m.variables }

-- ---- cells

abbrev pub cell_words : HeapCell → ℕ
cell_words c = length c.slots

abbrev pub live_cells : List HeapCell → List HeapCell
live_cells cells = filter (λ c. not c.freed) cells

abbrev pub live_words : Memory → ℕ
live_words m = sum (map cell_words (live_cells m.cells))

-- How many cells of a size are there and not freed.
abbrev pub live_count : ℕ → List HeapCell → ℕ
live_count size cells = length (filter (λ c. cell_words c == size) (live_cells cells))

abbrev pub greatest : ℕ → ℕ → List Peak → List Peak
greatest size count [] = record { size = size; count = count } ∷ []
greatest size count (p ∷ rest) =
    if p.size == size
    then record p { count = if nat_le p.count count then count else p.count } ∷ rest
    else p ∷ greatest size count rest

-- One more cell, with the next number.
abbrev pub with_new_cell : ℕ → List Word → Memory → Memory
with_new_cell t ws m =
    let all : List HeapCell = m.cells ++ record { of = t; slots = fresh ws; freed = false } ∷ [] in
    record m { cells = all; peaks = greatest (length ws) (live_count (length ws) all) m.peaks }

abbrev pub as_freed : HeapCell → HeapCell
as_freed c = record c { freed = true }

abbrev pub freed : ℕ → Memory → Memory
freed n m = record m { cells = with_cell n as_freed m.cells }

-- What a step that raises or traps leaves: the memory before it, with the cells that it made, which
-- count as freed.
abbrev pub given_up : Memory → Memory → Memory
given_up before m = record before {
  cells = before.cells ++ map as_freed (drop (length before.cells) m.cells);
  peaks = m.peaks;
}
