-- A value stored in a part of a cell keeps all that stands for the machine's memory.
use Rattle.std.proofs.Common.{◌≡◌, ℕ, zero, suc, ◌+◌, ◌<◌, ◌≤◌, true, false, Bool, not, List, [], ◌∷◌, ◌++◌, map, filter, length, take, drop, get_or, sum, refl, sym, ap, subst, ◌∙◌, arith, Some, slice_get, ℤ, if◌then◌else◌}
use Rattle.std.specs.Prelude.{◌==◌}
use Rattle.std.proofs.lemmas.List.{length-map}
use Rattle.std.proofs.lemmas.List.Sums.{sum_by-cons}
use Rattle.kept_cells.specs.run_values.declared.value.Value.{Value}
use Rattle.kept_cells.specs.Cells.{Cell as StoredCell, changed}
use Rattle.machine.specs.type_definitions.Types.{Table}
use Rattle.machine.specs.flow_paths.Objects.{Typing}
use Rattle.machine.specs.Words.{Word}
use Rattle.machine.specs.Typed.{Sort, sorts}
use Rattle.machine.specs.Memory.{Memory, Slot, HeapCell, Place, OfVariable, OfCell, no_cell, cell, at_number, cell_words, live_cells, fresh, slots_at, put, stored}
use Rattle.run_codes.specs.Flat.{Flat, kinds, kind_of, words_in, values, spliced, with_words, most_cells}
use Rattle.run_codes.specs.Related.{AllStand, IsValue, IsSplit, CellStands, types, Lying, lying_sorts, Related}
use Rattle.run_codes.proofs.Parts.{split_inside}
use Rattle.run_codes.proofs.Stores.{splice, spliced_is, split_replaced}
use Rattle.run_codes.proofs.Cells.{values_words, values_kinds, values_long, split_kinds, words_spliced, splice_long, number_same, number_other, number_long, number_types, stored_same, stored_other, stored_long}

-- ---- what is counted

-- A change that keeps the length of a cell, and whether it is freed.
pub record Keeps (g : HeapCell → HeapCell) (c : HeapCell) : Type 0 where
  pub long : length (g c).slots ≡ length c.slots
  pub freed : (g c).freed ≡ c.freed

live_one : (c : HeapCell) (cells : List HeapCell) → sum (map cell_words (live_cells (c ∷ cells))) ≡ (if not c.freed then length c.slots else 0) + sum (map cell_words (live_cells cells))
live_one c cells = by c.freed
  where
    none : (n : ℕ) → n ≡ 0 + n
    none n = omega arith

    by : (b : Bool) → sum (map cell_words (if not b then c ∷ live_cells cells else live_cells cells)) ≡ (if not b then length c.slots else 0) + sum (map cell_words (live_cells cells))
    by true = none (sum (map cell_words (live_cells cells)))
    by false = sum_by-cons (λ k. k) (length c.slots) (map cell_words (live_cells cells))

live_kept : (n : ℕ) (g : HeapCell → HeapCell) (cells : List HeapCell) → Keeps g (get_or cells n no_cell)
    → sum (map cell_words (live_cells (at_number n g cells))) ≡ sum (map cell_words (live_cells cells))
live_kept n g [] keeps = refl
live_kept zero g (c ∷ cells) keeps =
    live_one (g c) cells ∙ ap (λ b. (if not b then length (g c).slots else 0) + sum (map cell_words (live_cells cells))) keeps.freed
    ∙ ap (λ k. (if not c.freed then k else 0) + sum (map cell_words (live_cells cells))) keeps.long ∙ sym (live_one c cells)
live_kept (suc n) g (c ∷ cells) keeps =
    live_one c (at_number n g cells) ∙ ap (λ k. (if not c.freed then length c.slots else 0) + k) (live_kept n g cells keeps) ∙ sym (live_one c cells)

abbrev freed_count : List HeapCell → ℕ
freed_count cells = length (filter (λ (c : HeapCell). c.freed) cells)

freed_one : (c d : HeapCell) (cells : List HeapCell) → c.freed ≡ d.freed → freed_count (c ∷ cells) ≡ freed_count (d ∷ cells)
freed_one c d cells same = by c.freed d.freed same
  where
    by : (a b : Bool) → a ≡ b → length (if a then c ∷ filter (λ (c : HeapCell). c.freed) cells else filter (λ (c : HeapCell). c.freed) cells)
        ≡ length (if b then d ∷ filter (λ (c : HeapCell). c.freed) cells else filter (λ (c : HeapCell). c.freed) cells)
    by true true is = refl
    by false false is = refl
    by true false is = absurd (never is)
      where
        never : true ≡ false → ⊥
        never x = cc
    by false true is = absurd (never is)
      where
        never : false ≡ true → ⊥
        never x = cc

freed_more : (c : HeapCell) (a b : List HeapCell) → freed_count a ≡ freed_count b → freed_count (c ∷ a) ≡ freed_count (c ∷ b)
freed_more c a b same = by c.freed
  where
    by : (k : Bool) → length (if k then c ∷ filter (λ (c : HeapCell). c.freed) a else filter (λ (c : HeapCell). c.freed) a)
        ≡ length (if k then c ∷ filter (λ (c : HeapCell). c.freed) b else filter (λ (c : HeapCell). c.freed) b)
    by true = ap suc same
    by false = same

freed_kept : (n : ℕ) (g : HeapCell → HeapCell) (cells : List HeapCell) → Keeps g (get_or cells n no_cell) → freed_count (at_number n g cells) ≡ freed_count cells
freed_kept n g [] keeps = refl
freed_kept zero g (c ∷ cells) keeps = freed_one (g c) c cells keeps.freed
freed_kept (suc n) g (c ∷ cells) keeps = freed_more c (at_number n g cells) cells (freed_kept n g cells keeps)

-- ---- one cell has other words

pub cell_changed : (s : Typing) (all : List Lying) (m : Memory) (f : Flat) (n : ℕ) (slots : List Slot) (change : StoredCell → StoredCell)
    → Related s all m f → n < length m.cells → length slots ≡ length (cell m (suc n)).slots
    → ((k : StoredCell) → slice_get f.cells n ≡ Some k → CellStands s.table (types m) (cell m (suc n)) k
    → CellStands s.table (types m) (record (cell m (suc n)) { slots = slots }) (change k))
    → Related s all (put (OfCell (suc n)) slots m) (record f { cells = changed change f.cells n })
cell_changed s all m f n slots change related within long on = record {
  objects = λ l has. subst (λ t. AllStand s.table t (lying_sorts s l) (slots_at s m (OfVariable l.frame l.object)) (drop l.at f.stack)) (sym kept) (related.objects l has);
  cells = λ k lt. have k (subst (λ j. k < j) (number_long n g m.cells) lt) (n == k) refl;
  counted = record {
    made = stored_long n change f.cells ∙ related.counted.made ∙ sym (number_long n g m.cells);
    few = subst (λ j. j ≤ most_cells) (sym (number_long n g m.cells)) related.counted.few;
    live = related.counted.live ∙ sym (live_kept n g m.cells keeps);
    freed = related.counted.freed ∙ sym (freed_kept n g m.cells keeps);
  };
}
  where
    g : HeapCell → HeapCell
    g c = record c { slots = slots }

    keeps : Keeps g (get_or m.cells n no_cell)
    keeps = record { long = long; freed = refl }

    kept : map (λ (c : HeapCell). c.of) (at_number n g m.cells) ≡ types m
    kept = number_types n g m.cells (λ c. refl)

    same_number : (a b : ℕ) → (a == b) ≡ true → a ≡ b
    same_number a b is = grind arith

    have : (k : ℕ) → k < length m.cells → (b : Bool) → (n == k) ≡ b
        → (c : StoredCell) × (slice_get (changed change f.cells n) k ≡ Some c)
        × CellStands s.table (map (λ (c : HeapCell). c.of) (at_number n g m.cells)) (get_or (at_number n g m.cells) k no_cell) c
    have k lt false other =
        let old = related.cells k lt in (
          old.0,
          stored_other n k change f.cells other ∙ old.1,
          subst (λ t. CellStands s.table t (get_or (at_number n g m.cells) k no_cell) old.0) (sym kept)
              (subst (λ c. CellStands s.table (types m) c old.0) (sym (number_other n k g m.cells other)) old.2),
        )
    have k lt true same =
        let old = related.cells n within in
        let is : n ≡ k = same_number n k same in
        let new : CellStands s.table (types m) (get_or (at_number n g m.cells) n no_cell) (change old.0) =
        subst (λ c. CellStands s.table (types m) c (change old.0)) (sym (number_same n g m.cells within)) (on old.0 old.1 old.2) in
        subst (λ j. (c : StoredCell) × (slice_get (changed change f.cells n) j ≡ Some c)
        × CellStands s.table (map (λ (c : HeapCell). c.of) (at_number n g m.cells)) (get_or (at_number n g m.cells) j no_cell) c) is
        (change old.0, stored_same n change f.cells old.0 old.1, subst (λ t. CellStands s.table t (get_or (at_number n g m.cells) n no_cell) (change old.0)) (sym kept) new)

-- A value in a part of a cell.
value_in_cell : (table : Table) (made : List ℕ) (c : HeapCell) (k : StoredCell) (part : List Sort) (at : ℕ) (ws : List Word) (zs : List ℤ)
    → length made ≤ most_cells → IsSplit (sorts table c.of) at part → IsValue table made part ws zs → CellStands table made c k
    → CellStands table made (record c { slots = splice at (fresh ws) c.slots }) (record k { words = spliced at (values (map kind_of part) zs) k.words })
value_in_cell table made c k part at ws zs few split value is =
    let us : List Value = values (map kind_of part) zs in
    let inside = split_inside (sorts table c.of) part at split in
    let long_us : length us ≡ length part = values_long part zs value.numbers in
    let long_ws : length (fresh ws) ≡ length part = length-map ws (λ w. record { word = w; gone = false }) ∙ value.words in
    let fits : at + length us ≤ length k.words = omega (arith, inside, long_us, is.room) in
    let fits_slots : at + length (fresh ws) ≤ length c.slots = omega (arith, inside, long_ws, is.room, is.size) in
    let words_are : words_in (splice at us k.words) ≡ splice at zs (words_in k.words) =
    words_spliced at us k.words (omega (arith, fits)) ∙ ap (λ l. splice at l (words_in k.words)) (values_words table made part ws zs few value.numbers value.stand) in
    let stand = split_replaced table made (sorts table c.of) part at c.slots (fresh ws) (words_in k.words) zs split long_ws value.numbers is.words value.stand in
    let long : length (splice at us k.words) ≡ length k.words = splice_long at us k.words fits in
    let all : CellStands table made (record c { slots = splice at (fresh ws) c.slots }) (record k { words = splice at us k.words }) =
    record {
      words = subst (λ l. AllStand table made (sorts table c.of) (splice at (fresh ws) c.slots) l) (sym words_are) stand;
      kinds = split_kinds (sorts table c.of) part at k.words us split long_us is.kinds (values_kinds part zs value.numbers);
      size = splice_long at (fresh ws) c.slots fits_slots ∙ is.size ∙ sym long;
      room = long ∙ is.room;
      small = omega (arith, long, is.small);
      freed = is.freed;
    } in
    subst (λ l. CellStands table made (record c { slots = splice at (fresh ws) c.slots }) (record k { words = l })) (sym (spliced_is at us k.words)) all

pub stored_in_cell : (s : Typing) (all : List Lying) (m : Memory) (f : Flat) (p : Place) (n t : ℕ) (ws : List Word) (zs : List ℤ)
    → Related s all m f → n < length m.cells → p.base ≡ OfCell (suc n)
    → IsSplit (sorts s.table (cell m (suc n)).of) p.at (sorts s.table t) → IsValue s.table (types m) (sorts s.table t) ws zs
    → Related s all (stored s p ws m) (with_words f n p.at (values (kinds s.table t) zs))
stored_in_cell s all m f p n t ws zs related within base split value =
    let old : List Slot = (cell m (suc n)).slots in
    let some : length (types m) ≤ most_cells = subst (λ l. l ≤ most_cells) (sym (length-map m.cells (λ (c : HeapCell). c.of))) related.counted.few in
    let have = related.cells n within in
    let inside = split_inside (sorts s.table (cell m (suc n)).of) (sorts s.table t) p.at split in
    let long_ws : length (fresh ws) ≡ length (sorts s.table t) = length-map ws (λ w. record { word = w; gone = false }) ∙ value.words in
    let long : length (splice p.at (fresh ws) old) ≡ length old = splice_long p.at (fresh ws) old (omega (arith, inside, long_ws, have.2.room, have.2.size)) in
    let changed_is = cell_changed s all m f n (splice p.at (fresh ws) old) (λ c. record c { words = spliced p.at (values (kinds s.table t) zs) c.words }) related within long
    (λ k there stands. value_in_cell s.table (types m) (cell m (suc n)) k (sorts s.table t) p.at ws zs some split value stands) in
    let moved : Related s all (put (OfCell (suc n)) ((take p.at old ++ fresh ws) ++ drop (p.at + length (fresh ws)) old) m) (with_words f n p.at (values (kinds s.table t) zs)) =
    subst (λ x. Related s all (put (OfCell (suc n)) x m) (with_words f n p.at (values (kinds s.table t) zs))) (sym (spliced_is p.at (fresh ws) old)) changed_is in
    subst (λ b. Related s all (put b ((take p.at (slots_at s m b) ++ fresh ws) ++ drop (p.at + length (fresh ws)) (slots_at s m b)) m) (with_words f n p.at (values (kinds s.table t) zs))) (sym base) moved
