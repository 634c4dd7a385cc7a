-- A row keeps the numbers of the cells that are there.
use Rattle.std.proofs.Common.{◌≡◌, ◌⊎◌, inl, inr, refl, sym, ap, ◌∙◌, ℕ, zero, suc, ◌<◌, arith, Bool, true, false, true≢false, ◌==◌, List, [], ◌∷◌, ◌++◌, map, length, get_or, Option, Some, None, if◌then◌else◌}
use Rattle.std.proofs.lemmas.Bool.Decides.{nat_tests}
use Rattle.std.proofs.lemmas.List.{get_or_append_left}
use Rattle.numbered_cells.specs.run_values.declared.value.Value.{Value}
use Rattle.numbered_cells.specs.kept_cells.Cells as numbered
use Rattle.numbered_cells.specs.kept_cells.Cells.{Cell, allocated}
use Rattle.numbered_cells.specs.slot_heap.Heaps.{Heap, words_at}
use Rattle.numbered_cells.specs.Follows.{handled, IsThere, Follows}
use Rattle.handled_runs.specs.Changes.{row_with}
use Rattle.handled_runs.specs.Beside.{Numbers}

-- ---- cells that were there

-- What is there after a change was there before it.
abbrev pub WereThere : List Cell → List Cell → Type 0
WereThere after before = (n : ℕ) (ws : List Value) → IsThere after n ws → (vs : List Value) × IsThere before n vs

pub numbers_kept : (numbers : ℕ → ℕ) (handles : List ℕ) (before after : List Cell) → WereThere after before → Numbers numbers handles before → Numbers numbers handles after
numbers_kept numbers handles before after were row n ws there = let was = were n ws there in row n was.0 was.1

words_were : (f : List Value → List Value) (c : Cell) (ws : List Value) → record c { words = f c.words } ≡ record { words = ws; freed = false } → c ≡ record { words = c.words; freed = false }
words_were f c ws e = ap (λ b. record { words = c.words; freed = b }) (ap (λ (d : Cell). d.freed) e)

pub changed_were : (f : List Value → List Value) (cells : List Cell) (i : ℕ) → WereThere (numbered.changed (λ (c : Cell). record c { words = f c.words }) cells i) cells
changed_were f [] i n ws there = cc
changed_were f (c ∷ cells) zero zero ws there = (c.words, ap Some (words_were f c ws (let same : record c { words = f c.words } ≡ record { words = ws; freed = false } = cc in same)))
changed_were f (c ∷ cells) zero (suc n) ws there = (ws, there)
changed_were f (c ∷ cells) (suc i) zero ws there = (ws, there)
changed_were f (c ∷ cells) (suc i) (suc n) ws there = changed_were f cells i n ws there

pub freed_were : (cells : List Cell) (i : ℕ) → WereThere (numbered.released cells i) cells
freed_were [] i n ws there = cc
freed_were (c ∷ cells) zero zero ws there = absurd (true≢false (ap (λ (d : Cell). d.freed) (let same : record c { freed = true } ≡ record { words = ws; freed = false } = cc in same)))
freed_were (c ∷ cells) zero (suc n) ws there = (ws, there)
freed_were (c ∷ cells) (suc i) zero ws there = (ws, there)
freed_were (c ∷ cells) (suc i) (suc n) ws there = freed_were cells i n ws there

-- ---- a new cell

last_there : (cells : List Cell) (c : Cell) (n : ℕ) (ws : List Value) → IsThere (cells ++ c ∷ []) n ws → IsThere cells n ws ⊎ (n ≡ length cells)
last_there [] c zero ws there = inr refl
last_there [] c (suc n) ws there = cc
last_there (d ∷ cells) c zero ws there = inl there
last_there (d ∷ cells) c (suc n) ws there = by (last_there cells c n ws there)
  where
    by : IsThere cells n ws ⊎ (n ≡ length cells) → IsThere cells n ws ⊎ (suc n ≡ suc (length cells))
    by (inl is) = inl is
    by (inr is) = inr (ap suc is)

there_below : (cells : List Cell) (n : ℕ) (ws : List Value) → IsThere cells n ws → n < length cells
there_below [] n ws there = cc
there_below (c ∷ cells) zero ws there = omega arith
there_below (c ∷ cells) (suc n) ws there = let less = there_below cells n ws there in omega (arith, less)

last_handle : (handles : List ℕ) (h : ℕ) → get_or (handles ++ h ∷ []) (length handles) 0 ≡ h
last_handle [] h = refl
last_handle (x ∷ handles) h = last_handle handles h

none_some : {A : Type 0} (x : Option A) (a : A) → x ≡ None → x ≡ Some a → ⊥
none_some x a e f = cc

same_there : (h : ℕ) → (h == h) ≡ true
same_there h = grind (arith, nat_tests)

other_there : (g h : ℕ) → (g ≡ h → ⊥) → (g == h) ≡ false
other_there g h other = by (g == h) refl
  where
    equal : (g == h) ≡ true → g ≡ h
    equal e = grind (arith, nat_tests)

    by : (b : Bool) → (g == h) ≡ b → b ≡ false
    by true e = absurd (other (equal e))
    by false e = refl

-- A new cell has the next number, and the others keep theirs.
pub row_kept : (numbers : ℕ → ℕ) (handles : List ℕ) (cells : List Cell) (heap : Heap) (h : ℕ) (vs : List Value) → Follows handles cells heap → words_at heap.cells h ≡ None → Numbers numbers handles cells
    → Numbers (row_with numbers h (suc (length cells))) (handles ++ h ∷ []) (allocated cells vs)
row_kept numbers handles cells heap h vs follows new row n ws there = by (last_there cells (record { words = vs; freed = false }) n ws there)
  where
    by : IsThere cells n ws ⊎ (n ≡ length cells) → row_with numbers h (suc (length cells)) (get_or (handles ++ h ∷ []) n 0) ≡ suc n
    by (inl is) =
        let less = there_below cells n ws is in
        let long = follows.len in
        let old : get_or (handles ++ h ∷ []) n 0 ≡ get_or handles n 0 = get_or_append_left handles (h ∷ []) 0 n (omega (arith, less, long)) in
        let live = follows.live n ws is in
        let other : get_or handles n 0 ≡ h → ⊥ = λ same. none_some (words_at heap.cells h) (map (handled handles) ws) new (ap (words_at heap.cells) (sym same) ∙ live) in
        ap (row_with numbers h (suc (length cells))) old
        ∙ (ap (λ b. if b then suc (length cells) else numbers (get_or handles n 0)) (other_there (get_or handles n 0) h other) ∙ row n ws is)
    by (inr is) =
        let at : get_or (handles ++ h ∷ []) n 0 ≡ h = ap (λ i. get_or (handles ++ h ∷ []) i 0) (is ∙ sym follows.len) ∙ last_handle handles h in
        ap (row_with numbers h (suc (length cells))) at ∙ (ap (λ b. if b then suc (length cells) else numbers h) (same_there h) ∙ ap suc (sym is))
