-- What the machine does to memories that agree: each function of a memory gives the same or leaves
-- memories that agree. Nothing is asked of programs and states here.
use Rattle.std.proofs.Common.{◌≡◌, refl, sym, ap, ◌∙◌, subst, inl, inr, ℕ, zero, suc, ◌+◌, Bool, true, false, not, ◌&&◌, ◌==◌, List, [], ◌∷◌, ◌++◌, map, filter, take, drop, length, sum, get_or, if◌then◌else◌}
use Rattle.std.proofs.lemmas.Bool.{true≢false, false≢true}
use Rattle.machine.specs.spark_base.declared.position.Pos.{Pos}
use Rattle.machine.specs.place_names.declared.selector.Sel.{Sel}
use Rattle.machine.specs.type_definitions.Types.{words, parts}
use Rattle.machine.specs.flow_paths.Objects.{Typing, object_at}
use Rattle.machine.specs.Words.{Word, Int, Enumerated, Null, Cell, access_offsets, default, offsets}
use Rattle.machine.specs.Memory.{Slot, Variable, HeapCell, Memory, Base, Place, OfVariable, OfCell, fresh, is_variable, variable_slots, no_cell, cell, slots_at, slots_of, words_of, no_slot, with_variable, at_number, with_cell, put, with_slots, stored, as_gone, gone_at, moved_out, declared, undeclared, without_frame, cell_words, live_cells, live_words, live_count, greatest, with_new_cell, as_freed, freed, given_up}
use Rattle.machine.specs.Calls.{failed_at, failed, checked_at, checks_at}
use Rattle.recycled_runs.specs.ViewedFacts.NullPlaces.Cleared.{cleared_slot, cleared}
use Rattle.recycled_runs.specs.ViewedFacts.NullPlaces.Agrees.{Pairwise, AgreeSlot, AgreeSlots, AgreeVariable, AgreeCell, Agrees}
use Rattle.recycled_runs.proofs.ViewedFacts.NullPlaces.Lists.{pair_itself, pair_length, pair_append, pair_take, pair_drop, pair_get, pair_at, pair_same, pair_filter}

-- ---- slots

pub slots_itself : (xs : List Slot) → AgreeSlots xs xs
slots_itself xs = pair_itself AgreeSlot (λ x. inl refl) xs

-- Nothing of these is gone.
abbrev pub NoneGone : List Slot → Type 0
NoneGone xs = (i : ℕ) → (get_or xs i no_slot).gone ≡ false

one_word : (x y : Slot) → AgreeSlot x y → x.gone ≡ false → x.word ≡ y.word
one_word x y (inl e) whole = ap (λ (z : Slot). z.word) e
one_word x y (inr (gone, null)) whole = (let no : true ≡ false = sym gone ∙ whole in absurd (true≢false no))

-- where nothing is gone, the words are the same
pub same_words : (xs ys : List Slot) → AgreeSlots xs ys → NoneGone xs → map (λ (z : Slot). z.word) xs ≡ map (λ (z : Slot). z.word) ys
same_words [] [] p none = refl
same_words (x ∷ xs) (y ∷ ys) p none = (λ j. one_word x y p.0 (none 0) j ∷ same_words xs ys p.1 (λ i. none (suc i)) j)
same_words [] (y ∷ ys) p none = absurd p
same_words (x ∷ xs) [] p none = absurd p

gone_clear : (y : Slot) → cleared_slot (as_gone y) ≡ no_slot
gone_clear y = refl

pub one_gone : (x y : Slot) → AgreeSlot x y → AgreeSlot (as_gone x) (as_gone y)
one_gone x y p = inr (refl, gone_clear y)

pub gone_agree : (os : List ℕ) (xs ys : List Slot) → AgreeSlots xs ys → AgreeSlots (gone_at os xs) (gone_at os ys)
gone_agree [] xs ys p = p
gone_agree (o ∷ rest) xs ys p =
    gone_agree rest (at_number o as_gone xs) (at_number o as_gone ys) (pair_at AgreeSlot as_gone as_gone one_gone o xs ys p)

-- ---- variables and cells

same_variable : (f x : ℕ) (v w : Variable) → AgreeVariable v w → is_variable f x v ≡ is_variable f x w
same_variable f x v w a = (λ j. (a.0 j == f) && (a.1 j == x))

variable_agree : (s : Typing) (f x : ℕ) (vs ws : List Variable) → Pairwise AgreeVariable vs ws → AgreeSlots (variable_slots s f x vs) (variable_slots s f x ws)
variable_agree s f x [] [] p = slots_itself (fresh (default s.table (object_at s x).of))
variable_agree s f x (v ∷ vs) (w ∷ ws) p =
    subst (λ b. AgreeSlots (variable_slots s f x (v ∷ vs)) (if b then w.slots else variable_slots s f x ws)) (same_variable f x v w p.0)
    (by_test (is_variable f x v) (variable_agree s f x vs ws p.1))
  where
    by_test : (b : Bool) → AgreeSlots (variable_slots s f x vs) (variable_slots s f x ws)
        → AgreeSlots (if b then v.slots else variable_slots s f x vs) (if b then w.slots else variable_slots s f x ws)
    by_test true rest = p.0.2
    by_test false rest = rest
variable_agree s f x [] (w ∷ ws) p = absurd p
variable_agree s f x (v ∷ vs) [] p = absurd p

with_agree : (f x : ℕ) (xs ys : List Slot) → AgreeSlots xs ys → (vs ws : List Variable) → Pairwise AgreeVariable vs ws
    → Pairwise AgreeVariable (with_variable f x xs vs) (with_variable f x ys ws)
with_agree f x xs ys a [] [] p = ((refl, refl, a), tt)
with_agree f x xs ys a (v ∷ vs) (w ∷ ws) p =
    subst (λ b. Pairwise AgreeVariable (with_variable f x xs (v ∷ vs)) (if b then record w { slots = ys } ∷ ws else w ∷ with_variable f x ys ws))
    (same_variable f x v w p.0) (by_test (is_variable f x v) (with_agree f x xs ys a vs ws p.1))
  where
    by_test : (b : Bool) → Pairwise AgreeVariable (with_variable f x xs vs) (with_variable f x ys ws)
        → Pairwise AgreeVariable (if b then record v { slots = xs } ∷ vs else v ∷ with_variable f x xs vs)
        (if b then record w { slots = ys } ∷ ws else w ∷ with_variable f x ys ws)
    by_test true rest = ((p.0.0, p.0.1, a), p.1)
    by_test false rest = (p.0, rest)
with_agree f x xs ys a [] (w ∷ ws) p = absurd p
with_agree f x xs ys a (v ∷ vs) [] p = absurd p

cell_itself : (c : HeapCell) → AgreeCell c c
cell_itself c = (refl, refl, slots_itself c.slots)

variable_itself : (v : Variable) → AgreeVariable v v
variable_itself v = (refl, refl, slots_itself v.slots)

pub itself : (m : Memory) → Agrees m m
itself m = record {
  variables = pair_itself AgreeVariable variable_itself m.variables;
  cells = pair_itself AgreeCell cell_itself m.cells;
  peaks = refl;
}

pub cell_agree : (m n : Memory) → Agrees m n → (k : ℕ) → AgreeCell (cell m k) (cell n k)
cell_agree m n a zero = cell_itself no_cell
cell_agree m n a (suc k) = pair_get AgreeCell no_cell (cell_itself no_cell) k m.cells n.cells a.cells

pub count_agree : (m n : Memory) → Agrees m n → length m.cells ≡ length n.cells
count_agree m n a = pair_length AgreeCell m.cells n.cells a.cells

pub slots_agree : (s : Typing) (m n : Memory) → Agrees m n → (b : Base) → AgreeSlots (slots_at s m b) (slots_at s n b)
slots_agree s m n a (OfVariable f x) = variable_agree s f x m.variables n.variables a.variables
slots_agree s m n a (OfCell k) = (cell_agree m n a k).2

pub place_agree : (s : Typing) (m n : Memory) → Agrees m n → (k : Place) → AgreeSlots (slots_of s m k) (slots_of s n k)
place_agree s m n a k =
    pair_take AgreeSlot (words s.table k.of) (drop k.at (slots_at s m k.base)) (drop k.at (slots_at s n k.base))
    (pair_drop AgreeSlot k.at (slots_at s m k.base) (slots_at s n k.base) (slots_agree s m n a k.base))

-- The words of a place of which nothing is gone are the same.
pub words_agree : (s : Typing) (m n : Memory) → Agrees m n → (k : Place) → NoneGone (slots_of s m k) → words_of s m k ≡ words_of s n k
words_agree s m n a k none = same_words (slots_of s m k) (slots_of s n k) (place_agree s m n a k) none

-- ---- changes

other_slots : (xs ys : List Slot) → AgreeSlots xs ys → (c d : HeapCell) → AgreeCell c d → AgreeCell (record c { slots = xs }) (record d { slots = ys })
other_slots xs ys a c d p = (p.0, p.1, a)

with_cell_agree : (k : ℕ) (f g : HeapCell → HeapCell) → ((c d : HeapCell) → AgreeCell c d → AgreeCell (f c) (g d)) → (cs ds : List HeapCell)
    → Pairwise AgreeCell cs ds → Pairwise AgreeCell (with_cell k f cs) (with_cell k g ds)
with_cell_agree zero f g one cs ds p = p
with_cell_agree (suc k) f g one cs ds p = pair_at AgreeCell f g one k cs ds p

pub put_agree : (b : Base) (xs ys : List Slot) → AgreeSlots xs ys → (m n : Memory) → Agrees m n → Agrees (put b xs m) (put b ys n)
put_agree (OfVariable f x) xs ys p m n a = record {
  variables = with_agree f x xs ys p m.variables n.variables a.variables;
  cells = a.cells;
  peaks = a.peaks;
}
put_agree (OfCell k) xs ys p m n a = record {
  variables = a.variables;
  cells = with_cell_agree k (λ c. record c { slots = xs }) (λ c. record c { slots = ys }) (other_slots xs ys p) m.cells n.cells a.cells;
  peaks = a.peaks;
}

pub with_slots_agree : (s : Typing) (k : Place) (xs ys : List Slot) → AgreeSlots xs ys → (m n : Memory) → Agrees m n
    → Agrees (with_slots s k xs m) (with_slots s k ys n)
with_slots_agree s k xs ys p m n a =
    let all = slots_agree s m n a k.base in
    subst (λ l. Agrees (with_slots s k xs m) (put k.base (take k.at (slots_at s n k.base) ++ ys ++ drop (k.at + l) (slots_at s n k.base)) n))
    (pair_length AgreeSlot xs ys p)
    (put_agree k.base _ _
    (pair_append AgreeSlot (take k.at (slots_at s m k.base) ++ xs) (take k.at (slots_at s n k.base) ++ ys)
    (drop (k.at + length xs) (slots_at s m k.base)) (drop (k.at + length xs) (slots_at s n k.base))
    (pair_append AgreeSlot (take k.at (slots_at s m k.base)) (take k.at (slots_at s n k.base)) xs ys
    (pair_take AgreeSlot k.at (slots_at s m k.base) (slots_at s n k.base) all) p)
    (pair_drop AgreeSlot (k.at + length xs) (slots_at s m k.base) (slots_at s n k.base) all)) m n a)

pub stored_agree : (s : Typing) (k : Place) (ws : List Word) (m n : Memory) → Agrees m n → Agrees (stored s k ws m) (stored s k ws n)
stored_agree s k ws m n a = with_slots_agree s k (fresh ws) (fresh ws) (slots_itself (fresh ws)) m n a

pub moved_agree : (s : Typing) (k : Place) (m n : Memory) → Agrees m n → Agrees (moved_out s k m) (moved_out s k n)
moved_agree s k m n a =
    with_slots_agree s k (gone_at (access_offsets s.table k.of) (slots_of s m k)) (gone_at (access_offsets s.table k.of) (slots_of s n k))
    (gone_agree (access_offsets s.table k.of) (slots_of s m k) (slots_of s n k) (place_agree s m n a k)) m n a

pub declared_agree : (f x : ℕ) (ws : List Word) (m n : Memory) → Agrees m n → Agrees (declared f x ws m) (declared f x ws n)
declared_agree f x ws m n a = put_agree (OfVariable f x) (fresh ws) (fresh ws) (slots_itself (fresh ws)) m n a

pub undeclared_agree : (f x : ℕ) (m n : Memory) → Agrees m n → Agrees (undeclared f x m) (undeclared f x n)
undeclared_agree f x m n a = record {
  variables = pair_filter AgreeVariable (λ v. not (is_variable f x v)) (λ v w p. ap not (same_variable f x v w p)) m.variables n.variables a.variables;
  cells = a.cells;
  peaks = a.peaks;
}

pub frame_agree : (f : ℕ) (m n : Memory) → Agrees m n → Agrees (without_frame f m) (without_frame f n)
frame_agree f m n a = record {
  variables = pair_filter AgreeVariable (λ v. not (v.frame == f)) (λ v w p. (λ j. not (p.0 j == f))) m.variables n.variables a.variables;
  cells = a.cells;
  peaks = a.peaks;
}

-- ---- cells

same_size : (c d : HeapCell) → AgreeCell c d → cell_words c ≡ cell_words d
same_size c d p = pair_length AgreeSlot c.slots d.slots p.2

same_live : (c d : HeapCell) → AgreeCell c d → not c.freed ≡ not d.freed
same_live c d p = ap not p.1

live_agree : (cs ds : List HeapCell) → Pairwise AgreeCell cs ds → Pairwise AgreeCell (live_cells cs) (live_cells ds)
live_agree cs ds p = pair_filter AgreeCell (λ c. not c.freed) same_live cs ds p

pub room_agree : (m n : Memory) → Agrees m n → live_words m ≡ live_words n
room_agree m n a = ap sum (pair_same AgreeCell cell_words same_size (live_cells m.cells) (live_cells n.cells) (live_agree m.cells n.cells a.cells))

counts_agree : (size : ℕ) (cs ds : List HeapCell) → Pairwise AgreeCell cs ds → live_count size cs ≡ live_count size ds
counts_agree size cs ds p =
    pair_length AgreeCell (filter (λ c. cell_words c == size) (live_cells cs)) (filter (λ c. cell_words c == size) (live_cells ds))
    (pair_filter AgreeCell (λ c. cell_words c == size) (λ c d q. ap (λ k. k == size) (same_size c d q)) (live_cells cs) (live_cells ds) (live_agree cs ds p))

pub made_agree : (t : ℕ) (ws : List Word) (m n : Memory) → Agrees m n → Agrees (with_new_cell t ws m) (with_new_cell t ws n)
made_agree t ws m n a =
    let new : HeapCell = record { of = t; slots = fresh ws; freed = false } in
    let all : Pairwise AgreeCell (m.cells ++ new ∷ []) (n.cells ++ new ∷ []) =
    pair_append AgreeCell m.cells n.cells (new ∷ []) (new ∷ []) a.cells (cell_itself new, tt) in
    record {
      variables = a.variables;
      cells = all;
      peaks = (λ j. greatest (length ws) (counts_agree (length ws) (m.cells ++ new ∷ []) (n.cells ++ new ∷ []) all j) (a.peaks j));
    }

one_freed : (c d : HeapCell) → AgreeCell c d → AgreeCell (as_freed c) (as_freed d)
one_freed c d p = (p.0, refl, p.2)

pub freed_agree : (k : ℕ) (m n : Memory) → Agrees m n → Agrees (freed k m) (freed k n)
freed_agree k m n a = record {
  variables = a.variables;
  cells = with_cell_agree k as_freed as_freed one_freed m.cells n.cells a.cells;
  peaks = a.peaks;
}

all_freed : (cs ds : List HeapCell) → Pairwise AgreeCell cs ds → Pairwise AgreeCell (map as_freed cs) (map as_freed ds)
all_freed [] [] p = tt
all_freed (c ∷ cs) (d ∷ ds) p = (one_freed c d p.0, all_freed cs ds p.1)
all_freed [] (d ∷ ds) p = absurd p
all_freed (c ∷ cs) [] p = absurd p

pub given_up_agree : (m n a b : Memory) → Agrees m n → Agrees a b → Agrees (given_up m a) (given_up n b)
given_up_agree m n a b p q = record {
  variables = p.variables;
  cells = pair_append AgreeCell m.cells n.cells (map as_freed (drop (length m.cells) a.cells)) (map as_freed (drop (length n.cells) b.cells)) p.cells
      (all_freed (drop (length m.cells) a.cells) (drop (length n.cells) b.cells)
      (subst (λ l. Pairwise AgreeCell (drop (length m.cells) a.cells) (drop l b.cells)) (count_agree m n p)
      (pair_drop AgreeCell (length m.cells) a.cells b.cells q.cells)));
  peaks = q.peaks;
}

-- ---- leak checks: what is gone fails none, and neither does null

one_check : (pos : Pos) (w : Word) (g : Bool) (y : Slot) → g ≡ true → cleared_slot y ≡ no_slot → failed_at pos w g ≡ failed pos y
one_check pos w false y gone null = absurd (false≢true gone)
one_check pos w true y gone null = gone_none w ∙ sym (blank_none y.word y.gone null)
  where
    gone_none : (w : Word) → failed_at pos w true ≡ []
    gone_none (Int v) = refl
    gone_none (Enumerated v) = refl
    gone_none Null = refl
    gone_none (Cell v) = refl

    blank_none : (w : Word) (g : Bool) → (if g then no_slot else record { word = w; gone = g }) ≡ no_slot → failed_at pos w g ≡ []
    blank_none w true e = gone_none w
    blank_none w false e = ap (λ (z : Slot). failed_at pos z.word false) e

same_check : (pos : Pos) (x y : Slot) → AgreeSlot x y → failed pos x ≡ failed pos y
same_check pos x y (inl e) = ap (failed pos) e
same_check pos x y (inr (gone, null)) = one_check pos x.word x.gone y gone null

same_checks : (pos : Pos) (at : ℕ) (xs ys : List Slot) → AgreeSlots xs ys → (os : List ℕ) → checked_at pos at xs os ≡ checked_at pos at ys os
same_checks pos at xs ys p [] = refl
same_checks pos at xs ys p (o ∷ os) =
    (λ j. same_check pos (get_or xs (at + o) no_slot) (get_or ys (at + o) no_slot) (pair_get AgreeSlot no_slot (inl refl) (at + o) xs ys p) j
    ++ same_checks pos at xs ys p os j)

pub checks_agree : (s : Typing) (pos : Pos) (m n : Memory) → Agrees m n → (k : Place) → checks_at s pos m k ≡ checks_at s pos n k
checks_agree s pos m n a k = each (parts s.table k.of)
  where
    each : (qs : List (List Sel)) → map (λ q. checked_at pos k.at (slots_at s m k.base) (offsets s.table k.of q)) qs
        ≡ map (λ q. checked_at pos k.at (slots_at s n k.base) (offsets s.table k.of q)) qs
    each [] = refl
    each (q ∷ qs) =
        (λ j. same_checks pos k.at (slots_at s m k.base) (slots_at s n k.base) (slots_agree s m n a k.base) (offsets s.table k.of q) j ∷ each qs j)

-- ---- null in moved places

clear_again : (x : Slot) → cleared_slot (cleared_slot x) ≡ cleared_slot x
clear_again x = by x.gone x.word
  where
    by : (g : Bool) (w : Word) → cleared_slot (cleared_slot (record { word = w; gone = g })) ≡ cleared_slot (record { word = w; gone = g })
    by true w = refl
    by false w = refl

-- a slot agrees with itself without its mark
clear_slot : (x : Slot) → AgreeSlot x (cleared_slot x)
clear_slot x = by x.gone x.word
  where
    by : (g : Bool) (w : Word) → AgreeSlot (record { word = w; gone = g }) (cleared_slot (record { word = w; gone = g }))
    by true w = inr (refl, refl)
    by false w = inl refl

clear_slots : (xs : List Slot) → AgreeSlots xs (map cleared_slot xs)
clear_slots [] = tt
clear_slots (x ∷ xs) = (clear_slot x, clear_slots xs)

pub clear_agrees : (m : Memory) → Agrees m (cleared m)
clear_agrees m = record { variables = variables m.variables; cells = cells m.cells; peaks = refl }
  where
    variables : (vs : List Variable) → Pairwise AgreeVariable vs (map (λ (v : Variable). record v { slots = map cleared_slot v.slots }) vs)
    variables [] = tt
    variables (v ∷ vs) = ((refl, refl, clear_slots v.slots), variables vs)

    cells : (cs : List HeapCell) → Pairwise AgreeCell cs (map (λ (c : HeapCell). record c { slots = map cleared_slot c.slots }) cs)
    cells [] = tt
    cells (c ∷ cs) = ((refl, refl, clear_slots c.slots), cells cs)

-- so does a memory that agrees
clear_right : (x y : Slot) → AgreeSlot x y → AgreeSlot x (cleared_slot y)
clear_right x y (inl e) = subst (λ z. AgreeSlot x (cleared_slot z)) e (clear_slot x)
clear_right x y (inr (gone, null)) = inr (gone, clear_again y ∙ null)

slots_right : (xs ys : List Slot) → AgreeSlots xs ys → AgreeSlots xs (map cleared_slot ys)
slots_right [] [] p = tt
slots_right (x ∷ xs) (y ∷ ys) p = (clear_right x y p.0, slots_right xs ys p.1)
slots_right [] (y ∷ ys) p = absurd p
slots_right (x ∷ xs) [] p = absurd p

pub agrees_right : (m n : Memory) → Agrees m n → Agrees m (cleared n)
agrees_right m n a = record { variables = variables m.variables n.variables a.variables; cells = cells m.cells n.cells a.cells; peaks = a.peaks }
  where
    variables : (vs ws : List Variable) → Pairwise AgreeVariable vs ws
        → Pairwise AgreeVariable vs (map (λ (v : Variable). record v { slots = map cleared_slot v.slots }) ws)
    variables [] [] p = tt
    variables (v ∷ vs) (w ∷ ws) p = ((p.0.0, p.0.1, slots_right v.slots w.slots p.0.2), variables vs ws p.1)
    variables [] (w ∷ ws) p = absurd p
    variables (v ∷ vs) [] p = absurd p

    cells : (cs ds : List HeapCell) → Pairwise AgreeCell cs ds → Pairwise AgreeCell cs (map (λ (c : HeapCell). record c { slots = map cleared_slot c.slots }) ds)
    cells [] [] p = tt
    cells (c ∷ cs) (d ∷ ds) p = ((p.0.0, p.0.1, slots_right c.slots d.slots p.0.2), cells cs ds p.1)
    cells [] (d ∷ ds) p = absurd p
    cells (c ∷ cs) [] p = absurd p

-- as many cells are freed
pub freed_count : (m n : Memory) → Agrees m n → length (filter (λ (c : HeapCell). c.freed) m.cells) ≡ length (filter (λ (c : HeapCell). c.freed) n.cells)
freed_count m n a =
    pair_length AgreeCell (filter (λ (c : HeapCell). c.freed) m.cells) (filter (λ (c : HeapCell). c.freed) n.cells)
    (pair_filter AgreeCell (λ (c : HeapCell). c.freed) (λ c d p. p.1) m.cells n.cells a.cells)

-- memories that agree are the same with null in moved places
same_clear : (x y : Slot) → AgreeSlot x y → cleared_slot x ≡ cleared_slot y
same_clear x y (inl e) = ap cleared_slot e
same_clear x y (inr (gone, null)) = ap (λ b. if b then no_slot else x) gone ∙ sym null

slots_clear : (xs ys : List Slot) → AgreeSlots xs ys → map cleared_slot xs ≡ map cleared_slot ys
slots_clear xs ys p = pair_same AgreeSlot cleared_slot same_clear xs ys p

pub agrees_clear : (m n : Memory) → Agrees m n → cleared m ≡ cleared n
agrees_clear m n a = (λ j. record {
  variables = pair_same AgreeVariable (λ (v : Variable). record v { slots = map cleared_slot v.slots })
      (λ v w p. (λ i. record { frame = p.0 i; object = p.1 i; slots = slots_clear v.slots w.slots p.2 i })) m.variables n.variables a.variables j;
  cells = pair_same AgreeCell (λ (c : HeapCell). record c { slots = map cleared_slot c.slots })
      (λ c d p. (λ i. record { of = p.0 i; slots = slots_clear c.slots d.slots p.2 i; freed = p.1 i })) m.cells n.cells a.cells j;
  peaks = a.peaks j;
})
