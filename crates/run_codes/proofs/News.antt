-- A cell that is made on both sides keeps what stands for the machine's memory.
use Rattle.std.proofs.Common.{◌≡◌, inl, inr, ℕ, zero, suc, ◌+◌, ◌<◌, ◌≤◌, true, false, Bool, not, List, [], ◌∷◌, ◌++◌, map, filter, length, drop, get_or, sum, refl, sym, ap, subst, ◌∙◌, arith, Some, slice_get, ℤ, if◌then◌else◌, length-append}
use Rattle.std.specs.Prelude.{unsigned_abs}
use Rattle.std.proofs.lemmas.List.{length-map}
use Rattle.std.proofs.lemmas.List.Sums.{sum_by-cons}
use Rattle.std.proofs.lemmas.Bool.{cases_lt}
use Rattle.kept_cells.specs.Cells.{Cell as StoredCell}
use Rattle.machine.specs.type_definitions.Types.{Table}
use Rattle.machine.specs.type_definitions.Entries.{integer}
use Rattle.machine.specs.flow_paths.Objects.{Typing}
use Rattle.machine.specs.Words.{Word}
use Rattle.machine.specs.Typed.{Sort, Whole, Position, Pointer, sorts}
use Rattle.machine.specs.Memory.{Memory, Slot, HeapCell, OfVariable, no_cell, cell, cell_words, live_cells, live_words, fresh, slots_at, with_new_cell}
use Rattle.machine.specs.Evaluate.{heap_words}
use Rattle.run_codes.specs.Flat.{Flat, kinds, words_in, values, with_cell, most_cells}
use Rattle.run_codes.specs.Related.{PointsTo, Designates, Stands, AllStand, IsValue, CellStands, types, Lying, lying_sorts, Related}
use Rattle.run_codes.proofs.Cells.{values_words, values_kinds, values_long}

-- ---- more cells

pub get_before : {A : Type 0} (all more : List A) (n : ℕ) (d : A) → n < length all → get_or (all ++ more) n d ≡ get_or all n d
get_before [] more n d lt = absurd (omega (arith, lt))
get_before (a ∷ all) more zero d lt = refl
get_before (a ∷ all) more (suc n) d lt = get_before all more n d (omega (arith, lt))

get_last : {A : Type 0} (all : List A) (a d : A) → get_or (all ++ a ∷ []) (length all) d ≡ a
get_last [] a d = refl
get_last (b ∷ all) a d = get_last all a d

pub slice_before : {A : Type 0} (all more : List A) (n : ℕ) (a : A) → slice_get all n ≡ Some a → slice_get (all ++ more) n ≡ Some a
slice_before [] more n a is = cc
slice_before (b ∷ all) more zero a is = is
slice_before (b ∷ all) more (suc n) a is = slice_before all more n a is

slice_last : {A : Type 0} (all : List A) (a : A) → slice_get (all ++ a ∷ []) (length all) ≡ Some a
slice_last [] a = refl
slice_last (b ∷ all) a = slice_last all a

designates_more : (table : Table) (made more : List ℕ) (d n : ℕ) → Designates table made d n → Designates table (made ++ more) d n
designates_more table made more d n is = record {
  within = let long = length-append made more in omega (arith, long, is.within);
  sorts = ap (sorts table) (get_before made more n integer is.within) ∙ is.sorts;
}

points_more : (table : Table) (made more : List ℕ) (d n : ℕ) (w : Word) → PointsTo table made d w n → PointsTo table (made ++ more) d w n
points_more table made more d zero w is = is
points_more table made more d (suc n) w is = (is.0, designates_more table made more d n is.1)

stands_more : (table : Table) (made more : List ℕ) (s : Sort) (w : Word) (z : ℤ) → Stands table made s w z → Stands table (made ++ more) s w z
stands_more table made more Whole w z is = is
stands_more table made more Position w z is = is
stands_more table made more (Pointer d) w z is = points_more table made more d (unsigned_abs z) w is

pub all_more : (table : Table) (made more : List ℕ) (all : List Sort) (xs : List Slot) (zs : List ℤ) → AllStand table made all xs zs → AllStand table (made ++ more) all xs zs
all_more table made more [] xs zs is = tt
all_more table made more (s ∷ all) [] zs is = absurd is
all_more table made more (s ∷ all) (x ∷ xs) [] is = absurd is
all_more table made more (s ∷ all) (x ∷ xs) (z ∷ zs) is = ((stands_more table made more s x.word z is.0.0, is.0.1), all_more table made more all xs zs is.1)

pub cell_more : (table : Table) (made more : List ℕ) (c : HeapCell) (k : StoredCell) → CellStands table made c k → CellStands table (made ++ more) c k
cell_more table made more c k is = record {
  words = all_more table made more (sorts table c.of) c.slots (words_in k.words) is.words;
  kinds = is.kinds;
  size = is.size;
  room = is.room;
  small = is.small;
  freed = is.freed;
}

pub types_more : (cells : List HeapCell) (c : HeapCell) → map (λ (c : HeapCell). c.of) (cells ++ c ∷ []) ≡ map (λ (c : HeapCell). c.of) cells ++ c.of ∷ []
types_more [] c = refl
types_more (b ∷ cells) c = ap (λ l. b.of ∷ l) (types_more cells c)

-- ---- what is counted

live_more : (cells : List HeapCell) (c : HeapCell) → c.freed ≡ false → sum (map cell_words (live_cells (cells ++ c ∷ []))) ≡ sum (map cell_words (live_cells cells)) + length c.slots
live_more [] c live =
    ap (λ b. sum (map cell_words (if not b then c ∷ [] else []))) live ∙ sum_by-cons (λ k. k) (length c.slots) [] ∙ turn (length c.slots)
  where
    turn : (n : ℕ) → n + 0 ≡ 0 + n
    turn n = omega arith
live_more (b ∷ cells) c live = by (live_more cells c live) b.freed
  where
    by : sum (map cell_words (live_cells (cells ++ c ∷ []))) ≡ sum (map cell_words (live_cells cells)) + length c.slots → (k : Bool)
        → sum (map cell_words (if not k then b ∷ live_cells (cells ++ c ∷ []) else live_cells (cells ++ c ∷ [])))
        ≡ sum (map cell_words (if not k then b ∷ live_cells cells else live_cells cells)) + length c.slots
    by rest true = rest
    by rest false =
        let a = sum_by-cons (λ k. k) (length b.slots) (map cell_words (live_cells (cells ++ c ∷ []))) in
        let d = sum_by-cons (λ k. k) (length b.slots) (map cell_words (live_cells cells)) in
        omega (arith, a, d, rest)

freed_more : (cells : List HeapCell) (c : HeapCell) → c.freed ≡ false → length (filter (λ (c : HeapCell). c.freed) (cells ++ c ∷ [])) ≡ length (filter (λ (c : HeapCell). c.freed) cells)
freed_more [] c live = ap (λ b. length (if b then c ∷ [] else [])) live
freed_more (b ∷ cells) c live = by (freed_more cells c live) b.freed
  where
    by : length (filter (λ (c : HeapCell). c.freed) (cells ++ c ∷ [])) ≡ length (filter (λ (c : HeapCell). c.freed) cells) → (k : Bool)
        → length (if k then b ∷ filter (λ (c : HeapCell). c.freed) (cells ++ c ∷ []) else filter (λ (c : HeapCell). c.freed) (cells ++ c ∷ []))
        ≡ length (if k then b ∷ filter (λ (c : HeapCell). c.freed) cells else filter (λ (c : HeapCell). c.freed) cells)
    by rest true = ap suc rest
    by rest false = rest

-- ---- a new cell

pub cell_made : (s : Typing) (all : List Lying) (m : Memory) (f : Flat) (t : ℕ) (ws : List Word) (zs : List ℤ)
    → Related s all m f → IsValue s.table (types m) (sorts s.table t) ws zs → length zs ≤ heap_words → length m.cells < most_cells
    → Related s all (with_new_cell t ws m) (with_cell f (values (kinds s.table t) zs))
cell_made s all m f t ws zs related value small few = record {
  objects = λ l has.
      subst (λ k. AllStand s.table k (lying_sorts s l) (slots_at s m (OfVariable l.frame l.object)) (drop l.at f.stack)) (sym (types_more m.cells new))
      (all_more s.table (types m) (t ∷ []) (lying_sorts s l) (slots_at s m (OfVariable l.frame l.object)) (drop l.at f.stack) (related.objects l has));
  cells = λ n lt. elim (cases_lt n (length m.cells)) [
    | inl before ↦ old n before
    | inr after ↦ last n (omega (arith, lt, after, long))
  ];
  counted = record {
    made = length-append f.cells (stored ∷ []) ∙ ap (λ k. k + 1) related.counted.made ∙ sym long;
    few = omega (arith, long, few);
    live = ap (λ k. f.live + k) (values_long (sorts s.table t) zs value.numbers) ∙ ap (λ k. k + length (sorts s.table t)) related.counted.live
        ∙ ap (λ k. live_words m + k) (sym slots_long) ∙ sym (live_more m.cells new refl);
    freed = related.counted.freed ∙ sym (freed_more m.cells new refl);
  };
}
  where
    new : HeapCell
    new = record { of = t; slots = fresh ws; freed = false }

    stored : StoredCell
    stored = record { words = values (kinds s.table t) zs; freed = false }

    long : length (m.cells ++ new ∷ []) ≡ length m.cells + 1
    long = length-append m.cells (new ∷ [])

    slots_long : length (fresh ws) ≡ length (sorts s.table t)
    slots_long = length-map ws (λ w. record { word = w; gone = false }) ∙ value.words

    some : length (types m) ≤ most_cells
    some = subst (λ l. l ≤ most_cells) (sym (length-map m.cells (λ (c : HeapCell). c.of))) related.counted.few

    words_are : words_in (values (kinds s.table t) zs) ≡ zs
    words_are = values_words s.table (types m) (sorts s.table t) ws zs some value.numbers value.stand

    new_stands : CellStands s.table (types m) new stored
    new_stands = record {
      words = subst (λ l. AllStand s.table (types m) (sorts s.table t) (fresh ws) l) (sym words_are) value.stand;
      kinds = values_kinds (sorts s.table t) zs value.numbers;
      size = slots_long ∙ sym (values_long (sorts s.table t) zs value.numbers);
      room = values_long (sorts s.table t) zs value.numbers;
      small = subst (λ k. k ≤ heap_words) (value.numbers ∙ sym (values_long (sorts s.table t) zs value.numbers)) small;
      freed = refl;
    }

    grown : (c : HeapCell) (k : StoredCell) → CellStands s.table (types m) c k → CellStands s.table (map (λ (c : HeapCell). c.of) (m.cells ++ new ∷ [])) c k
    grown c k is = subst (λ l. CellStands s.table l c k) (sym (types_more m.cells new)) (cell_more s.table (types m) (t ∷ []) c k is)

    old : (n : ℕ) → n < length m.cells
        → (c : StoredCell) × (slice_get (f.cells ++ stored ∷ []) n ≡ Some c)
        × CellStands s.table (map (λ (c : HeapCell). c.of) (m.cells ++ new ∷ [])) (get_or (m.cells ++ new ∷ []) n no_cell) c
    old n lt =
        let have = related.cells n lt in (
          have.0,
          slice_before f.cells (stored ∷ []) n have.0 have.1,
          subst (λ c. CellStands s.table (map (λ (c : HeapCell). c.of) (m.cells ++ new ∷ [])) c have.0) (sym (get_before m.cells (new ∷ []) n no_cell lt))
              (grown (cell m (suc n)) have.0 have.2),
        )

    last : (n : ℕ) → n ≡ length m.cells
        → (c : StoredCell) × (slice_get (f.cells ++ stored ∷ []) n ≡ Some c)
        × CellStands s.table (map (λ (c : HeapCell). c.of) (m.cells ++ new ∷ [])) (get_or (m.cells ++ new ∷ []) n no_cell) c
    last n is = (
      stored,
      ap (λ k. slice_get (f.cells ++ stored ∷ []) k) (is ∙ sym related.counted.made) ∙ slice_last f.cells stored,
      subst (λ c. CellStands s.table (map (λ (c : HeapCell). c.of) (m.cells ++ new ∷ [])) c stored)
          (sym (ap (λ k. get_or (m.cells ++ new ∷ []) k no_cell) is ∙ get_last m.cells new no_cell)) (grown new stored new_stands),
    )
