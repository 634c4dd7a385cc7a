-- What a step that stops leaves: the memory before it, with the cells that it made, which are freed.
use Rattle.std.proofs.Common.{◌≡◌, inl, inr, ℕ, zero, suc, ◌+◌, ◌-◌, ◌<◌, ◌≤◌, true, false, Bool, not, List, [], ◌∷◌, ◌++◌, map, filter, length, drop, get_or, sum, refl, sym, ap, subst, ◌∙◌, arith, Some, slice_get, if◌then◌else◌, length-append}
use Rattle.std.proofs.lemmas.List.{length-map, map-append, length-drop}
use Rattle.std.proofs.lemmas.Bool.{cases_lt}
use Rattle.kept_cells.specs.Cells.{Cell as StoredCell}
use Rattle.flow_paths.specs.Objects.{Typing}
use Rattle.machine.specs.Memory.{Memory, HeapCell, OfVariable, no_cell, cell, cell_words, live_cells, slots_at, as_freed, given_up}
use Rattle.run_codes.specs.Flat.{Flat, most_cells}
use Rattle.run_codes.specs.Points as points
use Rattle.run_codes.specs.Related.{AllStand, CellStands, Seen, types, Lying, lying_sorts, Related}
use Rattle.run_codes.proofs.News.{all_more, cell_more, get_before, slice_before}
use Rattle.run_fills.specs.Filled.{IsWhole, Later}

-- ---- lists

get_later : {A : Type 0} (a b : List A) (n i : ℕ) (d : A) → n ≡ length a + i → get_or (a ++ b) n d ≡ get_or b i d
get_later [] b n i d is = ap (λ k. get_or b k d) (is ∙ none i)
  where
    none : (i : ℕ) → 0 + i ≡ i
    none i = omega arith
get_later (x ∷ a) b zero i d is = absurd (omega (arith, is))
get_later (x ∷ a) b (suc n) i d is = get_later a b n i d (omega (arith, is))

slice_later : {A : Type 0} (a b : List A) (n i : ℕ) → n ≡ length a + i → slice_get (a ++ b) n ≡ slice_get b i
slice_later [] b n i is = ap (λ k. slice_get b k) (is ∙ none i)
  where
    none : (i : ℕ) → 0 + i ≡ i
    none i = omega arith
slice_later (x ∷ a) b zero i is = absurd (omega (arith, is))
slice_later (x ∷ a) b (suc n) i is = slice_later a b n i (omega (arith, is))

get_mapped : {A : Type 0} (g : A → A) (xs : List A) (i : ℕ) (d : A) → i < length xs → get_or (map g xs) i d ≡ g (get_or xs i d)
get_mapped g [] i d lt = absurd (omega (arith, lt))
get_mapped g (x ∷ xs) zero d lt = refl
get_mapped g (x ∷ xs) (suc i) d lt = get_mapped g xs i d (omega (arith, lt))

slice_mapped : {A : Type 0} (g : A → A) (xs : List A) (i : ℕ) (a : A) → slice_get xs i ≡ Some a → slice_get (map g xs) i ≡ Some (g a)
slice_mapped g [] i a is = cc
slice_mapped g (x ∷ xs) zero a is = ap (λ y. Some (g y)) (same x a is)
  where
    same : {A : Type 0} (x a : A) → Some x ≡ Some a → x ≡ a
    same x a is = cc
slice_mapped g (x ∷ xs) (suc i) a is = slice_mapped g xs i a is

pub get_dropped : {A : Type 0} (n i k : ℕ) (xs : List A) (d : A) → k ≡ n + i → get_or (drop n xs) i d ≡ get_or xs k d
get_dropped zero i k xs d is = ap (λ j. get_or xs j d) (sym (is ∙ none i))
  where
    none : (i : ℕ) → 0 + i ≡ i
    none i = omega arith
get_dropped (suc n) i zero xs d is = absurd (omega (arith, is))
get_dropped (suc n) i (suc k) [] d is = refl
get_dropped (suc n) i (suc k) (x ∷ xs) d is = get_dropped n i k xs d (omega (arith, is))

slice_dropped : {A : Type 0} (n i k : ℕ) (xs : List A) → k ≡ n + i → slice_get (drop n xs) i ≡ slice_get xs k
slice_dropped zero i k xs is = ap (λ j. slice_get xs j) (sym (is ∙ none i))
  where
    none : (i : ℕ) → 0 + i ≡ i
    none i = omega arith
slice_dropped (suc n) i zero xs is = absurd (omega (arith, is))
slice_dropped (suc n) i (suc k) [] is = refl
slice_dropped (suc n) i (suc k) (x ∷ xs) is = slice_dropped n i k xs (omega (arith, is))

dropped_all : {A : Type 0} (a b : List A) (n : ℕ) → n ≡ length a → drop n (a ++ b) ≡ b
dropped_all [] b zero is = refl
dropped_all [] b (suc n) is = absurd (omega (arith, is))
dropped_all (x ∷ a) b zero is = absurd (omega (arith, is))
dropped_all (x ∷ a) b (suc n) is = dropped_all a b n (omega (arith, is))

-- ---- cells that are freed

of_freed : (cells : List HeapCell) → map (λ (c : HeapCell). c.of) (map as_freed cells) ≡ map (λ (c : HeapCell). c.of) cells
of_freed [] = refl
of_freed (c ∷ cells) = ap (λ l. c.of ∷ l) (of_freed cells)

of_dropped : (n : ℕ) (cells : List HeapCell) → map (λ (c : HeapCell). c.of) (drop n cells) ≡ drop n (map (λ (c : HeapCell). c.of) cells)
of_dropped zero cells = refl
of_dropped (suc n) [] = refl
of_dropped (suc n) (c ∷ cells) = of_dropped n cells

live_none : (cells : List HeapCell) → live_cells (map as_freed cells) ≡ []
live_none [] = refl
live_none (c ∷ cells) = live_none cells

live_with : (a b : List HeapCell) → live_cells b ≡ [] → live_cells (a ++ b) ≡ live_cells a
live_with [] b is = is
live_with (c ∷ a) b is = by c.freed (live_with a b is)
  where
    by : (k : Bool) → live_cells (a ++ b) ≡ live_cells a → (if not k then c ∷ live_cells (a ++ b) else live_cells (a ++ b)) ≡ (if not k then c ∷ live_cells a else live_cells a)
    by true rest = rest
    by false rest = ap (λ l. c ∷ l) rest

freed_all : (cells : List HeapCell) → length (filter (λ (c : HeapCell). c.freed) (map as_freed cells)) ≡ length cells
freed_all [] = refl
freed_all (c ∷ cells) = ap suc (freed_all cells)

freed_with : (a b : List HeapCell) → length (filter (λ (c : HeapCell). c.freed) (a ++ b)) ≡ length (filter (λ (c : HeapCell). c.freed) a) + length (filter (λ (c : HeapCell). c.freed) b)
freed_with [] b = none (length (filter (λ (c : HeapCell). c.freed) b))
  where
    none : (n : ℕ) → n ≡ 0 + n
    none n = omega arith
freed_with (c ∷ a) b = by c.freed (freed_with a b)
  where
    by : (k : Bool) → length (filter (λ (c : HeapCell). c.freed) (a ++ b)) ≡ length (filter (λ (c : HeapCell). c.freed) a) + length (filter (λ (c : HeapCell). c.freed) b)
        → length (if k then c ∷ filter (λ (c : HeapCell). c.freed) (a ++ b) else filter (λ (c : HeapCell). c.freed) (a ++ b))
        ≡ length (if k then c ∷ filter (λ (c : HeapCell). c.freed) a else filter (λ (c : HeapCell). c.freed) a) + length (filter (λ (c : HeapCell). c.freed) b)
    by true rest = omega (arith, rest)
    by false rest = rest

-- ---- both memories

-- The memory before, and a later one, in which more cells were made.
pub given_up_related : (s : Typing) (all : List Lying) (m n : Memory) (f g : Flat) (more : List ℕ) → Related s all m f → Related s all n g → types n ≡ types m ++ more
    → Related s all (given_up m n) (points.given_up f g)
given_up_related s all m n f g more before after grown = record {
  objects = λ l has.
      subst (λ t. AllStand s.table t (lying_sorts s l) (slots_at s m (OfVariable l.frame l.object)) (drop l.at f.stack)) (sym given)
      (all_more s.table (types m) more (lying_sorts s l) (slots_at s m (OfVariable l.frame l.object)) (drop l.at f.stack) (before.objects l has));
  cells = λ k lt. elim (cases_lt k (length m.cells)) [
    | inl old ↦ (
        let have = before.cells k old in (
          have.0,
          slice_before f.cells (map points.as_freed (drop (length f.cells) g.cells)) k have.0 have.1,
          subst (λ t. CellStands s.table t (get_or (m.cells ++ rest) k no_cell) have.0) (sym given)
              (subst (λ c. CellStands s.table (types m ++ more) c have.0) (sym (get_before m.cells rest k no_cell old))
              (cell_more s.table (types m) more (cell m (suc k)) have.0 have.2)),
        ))
    | inr new ↦ (
        let total = all_long in
        let here : k < length n.cells = omega (arith, lt, total) in
        let have = after.cells k here in
        let from : k ≡ length m.cells + (k - length m.cells) = omega (arith, new) in
        let from_flat : k ≡ length f.cells + (k - length m.cells) = omega (arith, new, before.counted.made) in
        let inside : (k - length m.cells) < length (drop (length m.cells) n.cells) = (let dropped = length-drop (length m.cells) n.cells in omega (arith, dropped, here, new)) in
        let cell_is : get_or (m.cells ++ rest) k no_cell ≡ as_freed (get_or n.cells k no_cell) =
        get_later m.cells rest k (k - length m.cells) no_cell from ∙ get_mapped as_freed (drop (length m.cells) n.cells) (k - length m.cells) no_cell inside
        ∙ ap as_freed (get_dropped (length m.cells) (k - length m.cells) k n.cells no_cell from) in
        let stored : slice_get (f.cells ++ map points.as_freed (drop (length f.cells) g.cells)) k ≡ Some (points.as_freed have.0) =
        slice_later f.cells (map points.as_freed (drop (length f.cells) g.cells)) k (k - length m.cells) from_flat
        ∙ slice_mapped points.as_freed (drop (length f.cells) g.cells) (k - length m.cells) have.0 (slice_dropped (length f.cells) (k - length m.cells) k g.cells from_flat ∙ have.1) in (
          points.as_freed have.0,
          stored,
          subst (λ c. CellStands s.table (types (given_up m n)) c (points.as_freed have.0)) (sym cell_is)
              (subst (λ t. CellStands s.table t (as_freed (get_or n.cells k no_cell)) (points.as_freed have.0)) (grown ∙ sym given)
              (freed_stands (get_or n.cells k no_cell) have.0 have.2)),
        ))
  ];
  counted = record {
    made =
        let a = length-append f.cells (map points.as_freed (drop (length f.cells) g.cells)) in
        let b = length-map (drop (length f.cells) g.cells) points.as_freed in
        let c = length-drop (length f.cells) g.cells in
        let total = all_long in
        omega (arith, a, b, c, total, before.counted.made, after.counted.made, more_cells);
    few = let total = all_long in let most = after.counted.few in subst (λ k. k ≤ most_cells) (sym total) most;
    live = before.counted.live ∙ ap (λ l. sum (map cell_words l)) (sym (live_with m.cells rest (live_none (drop (length m.cells) n.cells))));
    freed =
        let a = freed_with m.cells rest in
        let b = freed_all (drop (length m.cells) n.cells) in
        let c = length-drop (length m.cells) n.cells in
        omega (arith, a, b, c, before.counted.freed, before.counted.made, after.counted.made);
  };
}
  where
    rest : List HeapCell
    rest = map as_freed (drop (length m.cells) n.cells)

    types_long : length (types m) ≡ length m.cells
    types_long = length-map m.cells (λ (c : HeapCell). c.of)

    more_cells : length m.cells ≤ length n.cells
    more_cells =
        let a = length-map n.cells (λ (c : HeapCell). c.of) in
        let b = ap (λ (l : List ℕ). length l) grown ∙ length-append (types m) more in
        omega (arith, a, b, types_long)

    all_long : length (m.cells ++ rest) ≡ length n.cells
    all_long =
        let a = length-append m.cells rest in
        let b = length-map (drop (length m.cells) n.cells) as_freed in
        let c = length-drop (length m.cells) n.cells in
        omega (arith, a, b, c, more_cells)

    given : types (given_up m n) ≡ types m ++ more
    given =
        map-append (λ (c : HeapCell). c.of) m.cells rest ∙ ap (λ l. types m ++ l) (of_freed (drop (length m.cells) n.cells) ∙ of_dropped (length m.cells) n.cells
        ∙ ap (drop (length m.cells)) grown ∙ dropped_all (types m) more (length m.cells) (sym types_long))

    freed_stands : (c : HeapCell) (k : StoredCell) → CellStands s.table (types n) c k → CellStands s.table (types n) (as_freed c) (points.as_freed k)
    freed_stands c k is = record { words = is.words; kinds = is.kinds; size = is.size; room = is.room; small = is.small; freed = refl }

-- Where an evaluation stops, the cells that it made are among those of the memory that it ends with.
pub given_up_later : (e : Seen) (all : List Lying) (m : Memory) (f : Flat) → IsWhole e all → Later e all m f
    → Related e.site.typing all (given_up e.memory m) (points.given_up e.flat f)
given_up_later e all m f whole later = given_up_related e.site.typing all e.memory m e.flat f later.more whole.related later.whole.related later.grown
