-- A cell that is freed on both sides keeps what stands for the machine's memory.
use Rattle.std.proofs.Common.{◌≡◌, ℕ, zero, suc, ◌+◌, ◌<◌, ◌≤◌, true, false, Bool, not, List, [], ◌∷◌, ◌++◌, map, filter, length, take, drop, get_or, sum, refl, sym, ap, subst, ◌∙◌, arith, Some, slice_get, if◌then◌else◌}
use Rattle.std.specs.Prelude.{◌==◌}
use Rattle.std.proofs.lemmas.List.Sums.{sum_by-cons}
use Rattle.kept_cells.specs.Cells.{Cell as StoredCell, changed}
use Rattle.flow_paths.specs.Objects.{Typing}
use Rattle.machine.specs.Words.{Word}
use Rattle.machine.specs.Memory.{Memory, Slot, HeapCell, Base, Place, OfVariable, OfCell, no_cell, cell, at_number, cell_words, live_cells, fresh, slots_at, put, stored, as_freed, freed}
use Rattle.run_codes.specs.Flat.{Flat, without_cell, most_cells}
use Rattle.run_codes.specs.Related.{AllStand, CellStands, types, Lying, lying_sorts, Related}
use Rattle.run_codes.proofs.Cells.{number_same, number_other, number_long, number_types, stored_same, stored_other, stored_long}

-- ---- what is counted

abbrev live_sum : List HeapCell → ℕ
live_sum cells = sum (map cell_words (live_cells cells))

live_one : (c : HeapCell) (cells : List HeapCell) → live_sum (c ∷ cells) ≡ (if not c.freed then length c.slots else 0) + live_sum cells
live_one c cells = by c.freed
  where
    none : (n : ℕ) → n ≡ 0 + n
    none n = omega arith

    by : (b : Bool) → sum (map cell_words (if not b then c ∷ live_cells cells else live_cells cells)) ≡ (if not b then length c.slots else 0) + live_sum cells
    by true = none (live_sum cells)
    by false = sum_by-cons (λ k. k) (length c.slots) (map cell_words (live_cells cells))

-- The words of the cell are no more among those that live.
live_without : (n : ℕ) (cells : List HeapCell) → n < length cells → (get_or cells n no_cell).freed ≡ false
    → live_sum cells ≡ length (get_or cells n no_cell).slots + live_sum (at_number n as_freed cells)
live_without n [] lt live = absurd (omega (arith, lt))
live_without zero (c ∷ cells) lt live =
    live_one c cells ∙ ap (λ b. (if not b then length c.slots else 0) + live_sum cells) live
    ∙ ap (λ k. length c.slots + k) (sym (live_one (as_freed c) cells ∙ none (live_sum cells)))
  where
    none : (n : ℕ) → 0 + n ≡ n
    none n = omega arith
live_without (suc n) (c ∷ cells) lt live =
    let rest = live_without n cells (omega (arith, lt)) live in
    let before = live_one c cells in
    let after = live_one c (at_number n as_freed cells) in
    omega (arith, rest, before, after)

abbrev freed_count : List HeapCell → ℕ
freed_count cells = length (filter (λ (c : HeapCell). c.freed) cells)

freed_one : (c : HeapCell) (cells : List HeapCell) → freed_count (c ∷ cells) ≡ (if c.freed then 1 else 0) + freed_count cells
freed_one c cells = by c.freed
  where
    none : (n : ℕ) → n ≡ 0 + n
    none n = omega arith

    one : (n : ℕ) → suc n ≡ 1 + n
    one n = omega arith

    by : (b : Bool) → length (if b then c ∷ filter (λ (c : HeapCell). c.freed) cells else filter (λ (c : HeapCell). c.freed) cells) ≡ (if b then 1 else 0) + freed_count cells
    by true = one (freed_count cells)
    by false = none (freed_count cells)

freed_with : (n : ℕ) (cells : List HeapCell) → n < length cells → (get_or cells n no_cell).freed ≡ false → freed_count (at_number n as_freed cells) ≡ suc (freed_count cells)
freed_with n [] lt live = absurd (omega (arith, lt))
freed_with zero (c ∷ cells) lt live =
    let before = freed_one c cells ∙ ap (λ b. (if b then 1 else 0) + freed_count cells) live in
    let after = freed_one (as_freed c) cells in
    omega (arith, before, after)
freed_with (suc n) (c ∷ cells) lt live =
    let rest = freed_with n cells (omega (arith, lt)) live in
    let before = freed_one c cells in
    let after = freed_one c (at_number n as_freed cells) in
    omega (arith, rest, before, after)

-- ---- one cell is freed

pub freed_types : (n : ℕ) (m : Memory) → types (freed (suc n) m) ≡ types m
freed_types n m = number_types n as_freed m.cells (λ c. refl)

pub cell_freed : (s : Typing) (all : List Lying) (m : Memory) (f : Flat) (n size : ℕ) → Related s all m f → n < length m.cells → (cell m (suc n)).freed ≡ false → length (cell m (suc n)).slots ≡ size
    → Related s all (freed (suc n) m) (without_cell f n size)
cell_freed s all m f n size related within live sized = record {
  objects = λ l has. subst (λ t. AllStand s.table t (lying_sorts s l) (slots_at s m (OfVariable l.frame l.object)) (drop l.at f.stack)) (sym (freed_types n m)) (related.objects l has);
  cells = λ k lt. have k (subst (λ j. k < j) (number_long n as_freed m.cells) lt) (n == k) refl;
  counted = record {
    made = stored_long n change f.cells ∙ related.counted.made ∙ sym (number_long n as_freed m.cells);
    few = subst (λ j. j ≤ most_cells) (sym (number_long n as_freed m.cells)) related.counted.few;
    live = let whole = live_without n m.cells within live in omega (arith, whole, related.counted.live, sized);
    freed = ap suc related.counted.freed ∙ sym (freed_with n m.cells within live);
  };
}
  where
    change : StoredCell → StoredCell
    change c = record c { freed = true }

    same_number : (a b : ℕ) → (a == b) ≡ true → a ≡ b
    same_number a b is = grind arith

    freed_stands : (c : HeapCell) (k : StoredCell) → CellStands s.table (types m) c k → CellStands s.table (types m) (as_freed c) (change k)
    freed_stands c k is = record { words = is.words; kinds = is.kinds; size = is.size; room = is.room; small = is.small; freed = refl }

    have : (k : ℕ) → k < length m.cells → (b : Bool) → (n == k) ≡ b
        → (c : StoredCell) × (slice_get (changed change f.cells n) k ≡ Some c)
        × CellStands s.table (map (λ (c : HeapCell). c.of) (at_number n as_freed m.cells)) (get_or (at_number n as_freed m.cells) k no_cell) c
    have k lt false other =
        let old = related.cells k lt in (
          old.0,
          stored_other n k change f.cells other ∙ old.1,
          subst (λ t. CellStands s.table t (get_or (at_number n as_freed m.cells) k no_cell) old.0) (sym (freed_types n m))
              (subst (λ c. CellStands s.table (types m) c old.0) (sym (number_other n k as_freed m.cells other)) old.2),
        )
    have k lt true same =
        let old = related.cells n within in
        let new : CellStands s.table (types m) (get_or (at_number n as_freed m.cells) n no_cell) (change old.0) =
        subst (λ c. CellStands s.table (types m) c (change old.0)) (sym (number_same n as_freed m.cells within)) (freed_stands (cell m (suc n)) old.0 old.2) in
        subst (λ j. (c : StoredCell) × (slice_get (changed change f.cells n) j ≡ Some c)
        × CellStands s.table (map (λ (c : HeapCell). c.of) (at_number n as_freed m.cells)) (get_or (at_number n as_freed m.cells) j no_cell) c) (same_number n k same)
        (change old.0, stored_same n change f.cells old.0 old.1, subst (λ t. CellStands s.table t (get_or (at_number n as_freed m.cells) n no_cell) (change old.0)) (sym (freed_types n m)) new)

-- ---- what is stored where a cell was freed

slots_freed : (n k : ℕ) (cells : List HeapCell) → (get_or (at_number n as_freed cells) k no_cell).slots ≡ (get_or cells k no_cell).slots
slots_freed n k [] = refl
slots_freed zero zero (c ∷ cells) = refl
slots_freed zero (suc k) (c ∷ cells) = refl
slots_freed (suc n) zero (c ∷ cells) = refl
slots_freed (suc n) (suc k) (c ∷ cells) = slots_freed n k cells

base_freed : (s : Typing) (n : ℕ) (b : Base) (m : Memory) → slots_at s (freed (suc n) m) b ≡ slots_at s m b
base_freed s n (OfVariable frame x) m = refl
base_freed s n (OfCell zero) m = refl
base_freed s n (OfCell (suc k)) m = slots_freed n k m.cells

numbers_turned : (k n : ℕ) (slots : List Slot) (cells : List HeapCell)
    → at_number k (λ (c : HeapCell). record c { slots = slots }) (at_number n as_freed cells) ≡ at_number n as_freed (at_number k (λ (c : HeapCell). record c { slots = slots }) cells)
numbers_turned k n slots [] = refl
numbers_turned zero zero slots (c ∷ cells) = refl
numbers_turned zero (suc n) slots (c ∷ cells) = refl
numbers_turned (suc k) zero slots (c ∷ cells) = refl
numbers_turned (suc k) (suc n) slots (c ∷ cells) = ap (λ l. c ∷ l) (numbers_turned k n slots cells)

put_freed : (b : Base) (slots : List Slot) (n : ℕ) (m : Memory) → put b slots (freed (suc n) m) ≡ freed (suc n) (put b slots m)
put_freed (OfVariable frame x) slots n m = refl
put_freed (OfCell zero) slots n m = refl
put_freed (OfCell (suc k)) slots n m = ap (λ l. record m { cells = l }) (numbers_turned k n slots m.cells)

-- It may be freed after the store as well.
pub stored_freed : (s : Typing) (p : Place) (ws : List Word) (n : ℕ) (m : Memory) → stored s p ws (freed (suc n) m) ≡ freed (suc n) (stored s p ws m)
stored_freed s p ws n m =
    ap (λ all. put p.base (take p.at all ++ fresh ws ++ drop (p.at + length (fresh ws)) all) (freed (suc n) m)) (base_freed s n p.base m)
    ∙ put_freed p.base (take p.at (slots_at s m p.base) ++ fresh ws ++ drop (p.at + length (fresh ws)) (slots_at s m p.base)) n m
