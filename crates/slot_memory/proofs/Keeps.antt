-- What is kept beside the store stays right, where cells are written, made and freed.
use Rattle.std.proofs.Common.{◌≡◌, ℕ, zero, suc, ◌+◌, ◌-◌, ◌<◌, ◌≤◌, ◌⊎◌, ◌^◌, ◌==◌, true, false, if◌then◌else◌, Option, None, Some, IsSomeAnd, List, [], ◌∷◌, ◌++◌, length, get_or, set, slice_get, replicate, refl, sym, ap, subst, ◌∙◌, arith, inl, inr, ⊎_elim}
use Rattle.std.proofs.lemmas.Bool.{cases_eq, eq-eqb, ne_eqb}
use Rattle.std.proofs.lemmas.Bool.Decides.{nat_tests}
use Rattle.std.proofs.lemmas.List.{get_or-set_same, get_or-set_other}
use Rattle.std.proofs.lemmas.Option.{slice_get-get_or}
use Rattle.run_values.specs.declared.value.Value.{Value}
use Rattle.machine.specs.Evaluate.{heap_words}
use Rattle.run_codes.specs.Flat.{most_cells}
use Rattle.slot_heap.specs.Heaps.{Cell, Heap, no_heap, words_at, IsLive, IsOfSize, with_slot, allocated, without, released, live_count, slot_count}
use Rattle.slot_heap.specs.Runs.{IsOnce}
use Rattle.slot_heap.proofs.Heaps.{words_at-without_same, IsOnce-without}
use Rattle.slot_heap.proofs.Places.{get-set_same, get-set_other, get-append, is_within, some_split}
use Rattle.slot_heap.proofs.Allocated.{grown_within}
use Rattle.handled_runs.specs.Changes.{row_with}
use Rattle.slot_memory.specs.Cells.{Cells, IsSized, Keep, KnowsCells, IsMadeAs, IsFreed, size_at}
use Rattle.slot_memory.proofs.Heaps.{SameSizes, size_words}

-- ---- cells are written

pub keep_same : {R : Type 0} (Means : R → Heap → Type 0) (c : Cells R) (m n : Heap) (numbers : ℕ → ℕ) (store : R)
    → SameSizes m n → Means store n → Keep Means c m numbers → Keep Means (record c { store = store }) n numbers
keep_same Means c m n numbers store same means keep = record {
  means = means;
  once = same.once keep.once;
  sized = λ h k is. keep.sized h k (sym (same.sizes h) ∙ is);
  numbered = keep.numbered;
  counted = omega (arith, keep.counted, same.cells);
  within = keep.within;
  slots = omega (arith, keep.slots, ap length same.slots);
  few = keep.few;
}

-- ---- rows by handle

abbrev pub padded : List ℕ → ℕ → List ℕ
padded xs n = xs ++ replicate (n + 1 - length xs) 0

zeros : (k j : ℕ) → let none : ℕ = 0 in get_or (replicate k none) j none ≡ none
zeros zero j = refl
zeros (suc k) zero = refl
zeros (suc k) (suc j) = zeros k j

pad_zero : (xs : List ℕ) (k j : ℕ) → get_or (xs ++ replicate k 0) j 0 ≡ get_or xs j 0
pad_zero [] k j = zeros k j
pad_zero (x ∷ xs) k zero = refl
pad_zero (x ∷ xs) k (suc j) = pad_zero xs k j

sized_here : (lengths : List ℕ) (h k : ℕ) → h < 2 ^ 62 → k ≤ heap_words → IsSized (set (padded lengths h) h k) h k
sized_here lengths h k small few = record {
  small = small;
  size = get-set_same (padded lengths h) h k (grown_within lengths h 0);
  few = few;
}

sized_other : (lengths : List ℕ) (h k j n : ℕ) → (j ≡ h → ⊥) → IsSized lengths j n → IsSized (set (padded lengths h) h k) j n
sized_other lengths h k j n other old = record {
  small = old.small;
  size = get-set_other (padded lengths h) h j k other ∙ get-append lengths (replicate (h + 1 - length lengths) 0) j (is_within lengths j n old.size) ∙ old.size;
  few = old.few;
}

-- ---- a cell is made

size_made : (cells : List Cell) (h : ℕ) (vs : List Value) (j n : ℕ) → size_at (record { handle = h; words = vs } ∷ cells) j ≡ Some n
    → ((j ≡ h) × (n ≡ length vs)) ⊎ ((j ≡ h → ⊥) × (size_at cells j ≡ Some n))
size_made cells h vs j n is =
    ⊎_elim
    (λ (e : h ≡ j). let here : Some (length vs) ≡ Some n = rw (eq-eqb h j e) at is in inl (sym e, cc))
    (λ (other : h ≡ j → ⊥). let there : size_at cells j ≡ Some n = rw (ne_eqb h j other) at is in inr (λ e. other (sym e), there))
    (cases_eq h j)

row_made : (numbers : ℕ → ℕ) (row : List ℕ) (h x : ℕ) → ((j : ℕ) → numbers j ≡ get_or row j 0) → (j : ℕ) → row_with numbers h x j ≡ get_or (set (padded row h) h x) j 0
row_made numbers row h x same j =
    ⊎_elim
    (λ (e : j ≡ h). rw (eq-eqb j h e) (sym (ap (λ i. get_or (set (padded row h) h x) i 0) e ∙ get_or-set_same (padded row h) h x 0 (grown_within row h 0))))
    (λ (other : j ≡ h → ⊥). rw (ne_eqb j h other) (same j ∙ sym (get_or-set_other (padded row h) h j x 0 other ∙ pad_zero row (h + 1 - length row) j)))
    (cases_eq j h)

row_within : (numbers : ℕ → ℕ) (h k n j : ℕ) → n ≡ suc k → ((i : ℕ) → numbers i ≤ k) → row_with numbers h (suc k) j ≤ n
row_within numbers h k n j is less =
    ⊎_elim
    (λ (e : j ≡ h). rw (eq-eqb j h e) (omega (arith, is)))
    (λ (other : j ≡ h → ⊥). let old = less j in rw (ne_eqb j h other) (omega (arith, is, old)))
    (cases_eq j h)

slots_made : (m : Heap) (n : ℕ) → length (with_slot n m) ≤ suc (length m.slots)
slots_made m n =
    elim (live_count n m.cells == slot_count n m.slots) as (λ b. length (if b then n ∷ m.slots else m.slots) ≤ suc (length m.slots)) [
      | true ↦ omega arith
      | false ↦ omega arith
    ]

pub keep_made : {R : Type 0} (Means : R → Heap → Type 0) (c n : Cells R) (m : Heap) (numbers : ℕ → ℕ) (h : ℕ) (vs : List Value)
    → h < 2 ^ 62 → length vs ≤ heap_words → c.made < most_cells → words_at m.cells h ≡ None → Means n.store (allocated m h vs)
    → n.lengths ≡ set (padded c.lengths h) h (length vs) → n.numbers ≡ set (padded c.numbers h) h (suc c.made)
    → n.made ≡ suc c.made → n.freed ≡ c.freed → Keep Means c m numbers → Keep Means n (allocated m h vs) (row_with numbers h (suc c.made))
keep_made Means c n m numbers h vs small short few new means lengths row made freed keep = record {
  means = means;
  once = (new, keep.once);
  sized = sized;
  numbered = λ j. row_made numbers c.numbers h (suc c.made) keep.numbered j ∙ ap (λ l. get_or l j 0) (sym row);
  counted = omega (arith, keep.counted, made, freed);
  within = λ j. row_within numbers h c.made n.made j made keep.within;
  slots = omega (arith, keep.slots, made, slots_made m (length vs));
  few = omega (arith, few, made);
}
  where
    sized : (j k : ℕ) → size_at (allocated m h vs).cells j ≡ Some k → IsSized n.lengths j k
    sized j k is =
        let P : List ℕ → Type 0 = λ l. IsSized l j k in
        subst P (sym lengths)
        (⊎_elim
        (λ (e : (j ≡ h) × (k ≡ length vs)).
        let Q : ℕ → Type 0 = λ i. IsSized (set (padded c.lengths h) h (length vs)) i k in
        let S : ℕ → Type 0 = λ i. IsSized (set (padded c.lengths h) h (length vs)) h i in
        subst Q (sym e.0) (subst S (sym e.1) (sized_here c.lengths h (length vs) small short)))
        (λ (e : (j ≡ h → ⊥) × (size_at m.cells j ≡ Some k)). sized_other c.lengths h (length vs) j k e.0 (keep.sized j k e.1))
        (size_made m.cells h vs j k is))

-- ---- a cell is freed

size_none : (cells : List Cell) (h : ℕ) → words_at cells h ≡ None → size_at cells h ≡ None
size_none [] h is = refl
size_none (c ∷ cells) h is =
    let others = size_none cells h in
    grind (arith, nat_tests)

size_without_other : (cells : List Cell) (h j : ℕ) → (j ≡ h → ⊥) → size_at (without cells h) j ≡ size_at cells j
size_without_other [] h j other = refl
size_without_other (c ∷ cells) h j other =
    let others = size_without_other cells h j other in
    grind (arith, nat_tests)

size_without : (cells : List Cell) (h j n : ℕ) → IsOnce cells → size_at (without cells h) j ≡ Some n → size_at cells j ≡ Some n
size_without cells h j n once is =
    ⊎_elim
    (λ (e : j ≡ h).
    let none : size_at (without cells h) j ≡ None = ap (size_at (without cells h)) e ∙ size_none (without cells h) h (words_at-without_same cells h once) in
    absurd (none_some (size_at (without cells h) j) n none is))
    (λ (other : j ≡ h → ⊥). sym (size_without_other cells h j other) ∙ is)
    (cases_eq j h)
  where
    none_some : (x : Option ℕ) (k : ℕ) → x ≡ None → x ≡ Some k → ⊥
    none_some x k e f = cc

pub without_long : (cells : List Cell) (h : ℕ) (ws : List Value) → words_at cells h ≡ Some ws → length cells ≡ suc (length (without cells h))
without_long [] h ws is = cc
without_long (c ∷ cells) h ws is =
    let others = without_long cells h ws in
    grind (arith, nat_tests)

pub keep_freed : {R : Type 0} (Means : R → Heap → Type 0) (c n : Cells R) (m : Heap) (numbers : ℕ → ℕ) (h : ℕ) (ws : List Value)
    → words_at m.cells h ≡ Some ws → Means n.store (released m h) → n.lengths ≡ c.lengths → n.numbers ≡ c.numbers → n.made ≡ c.made
    → n.freed ≡ suc c.freed → Keep Means c m numbers → Keep Means n (released m h) numbers
keep_freed Means c n m numbers h ws live means lengths row made freed keep = record {
  means = means;
  once = IsOnce-without m.cells h keep.once;
  sized = λ j k is. (let P : List ℕ → Type 0 = λ l. IsSized l j k in subst P (sym lengths) (keep.sized j k (size_without m.cells h j k keep.once is)));
  numbered = λ j. keep.numbered j ∙ ap (λ l. get_or l j 0) (sym row);
  counted = omega (arith, keep.counted, made, freed, without_long m.cells h ws live);
  within = λ j. (let old = keep.within j in omega (arith, old, made));
  slots = omega (arith, keep.slots, made);
  few = omega (arith, keep.few, made);
}

-- ---- no cells

pub keep_none : {R : Type 0} (Means : R → Heap → Type 0) (store : R) (lent : ℕ) → Means store no_heap
    → Keep Means (record { store = store; lent = lent; lengths = []; numbers = []; made = 0; freed = 0; live = 0 }) no_heap (λ h. 0)
keep_none Means store lent means = record {
  means = means;
  once = tt;
  sized = λ j k is. cc;
  numbered = λ j. refl;
  counted = omega arith;
  within = λ h. omega arith;
  slots = omega arith;
  few = omega arith;
}

-- ---- what is answered

pub freed_size : {R : Type 0} (Means : R → Heap → Type 0) (c : Cells R) (m : Heap) (numbers : ℕ → ℕ) (h i k : ℕ) → i ≡ h → k ≡ get_or c.lengths i k
    → Keep Means c m numbers → (ws : List Value) → words_at m.cells h ≡ Some ws → (length ws ≡ k) × (h < length c.lengths)
freed_size Means c m numbers h i k same read keep ws live =
    let s = keep.sized h (length ws) (size_words m.cells h ws live) in
    let within = is_within c.lengths h (length ws) s.size in
    let there : slice_get c.lengths h ≡ Some (get_or c.lengths h k) = slice_get-get_or c.lengths h k within in
    (some_same (length ws) (get_or c.lengths h k) (sym s.size ∙ there) ∙ sym (read ∙ ap (λ j. get_or c.lengths j k) same), within)
  where
    some_same : (a b : ℕ) → Some a ≡ Some b → a ≡ b
    some_same a b is = cc

pub freed_of : {R : Type 0} (Means : R → Heap → Type 0) (c : Cells R) (h i k : ℕ) → i ≡ h → k ≡ get_or c.lengths i k → KnowsCells Means c (λ m. IsLive m h)
    → (x : Heap) × (Means c.store x × IsOfSize x h k)
freed_of Means c h i k same read known =
    let m = known.0 in
    let keep = known.1.1.0 in
    let w = some_split (words_at m.cells h) (λ ws. ws ≡ ws) known.1.1.1 in
    (m, (keep.means, subst (λ (x : Option (List Value)). IsSomeAnd x (λ ws. length ws ≡ k)) (sym w.1) (freed_size Means c m known.1.0 h i k same read keep w.0 w.1).0))

pub freed_within : {R : Type 0} (Means : R → Heap → Type 0) (c : Cells R) (h : ℕ) → KnowsCells Means c (λ m. IsLive m h) → h < length c.lengths
freed_within Means c h known =
    let keep = known.1.1.0 in
    let w = some_split (words_at known.0.cells h) (λ ws. ws ≡ ws) known.1.1.1 in
    is_within c.lengths h (length w.0) (keep.sized h (length w.0) (size_words known.0.cells h w.0 w.1)).size

pub freed_few : {R : Type 0} (Means : R → Heap → Type 0) (c : Cells R) (h : ℕ) → KnowsCells Means c (λ m. IsLive m h) → c.freed < most_cells
freed_few Means c h known =
    let keep = known.1.1.0 in
    let w = some_split (words_at known.0.cells h) (λ ws. ws ≡ ws) known.1.1.1 in
    omega (arith, keep.counted, keep.few, without_long known.0.cells h w.0 w.1)

pub freed_as : {R : Type 0} (Means : R → Heap → Type 0) (c n : Cells R) (h i k : ℕ) → i ≡ h → k ≡ get_or c.lengths i k
    → ((m : Heap) → Means c.store m → IsOfSize m h k → Means n.store (released m h))
    → n.lengths ≡ c.lengths → n.numbers ≡ c.numbers → n.made ≡ c.made → n.freed ≡ suc c.freed → n.live ≡ c.live - k → IsFreed Means c h n
freed_as Means c n h i k same read free lengths row made freed live = record {
  made = made;
  freed = freed;
  live = λ m numbers ws keep is. live ∙ ap (λ j. c.live - j) (sym (freed_size Means c m numbers h i k same read keep ws is).0);
  keep = λ m numbers ws keep is.
      let size : IsOfSize m h k =
      subst (λ (x : Option (List Value)). IsSomeAnd x (λ us. length us ≡ k)) (sym is) (freed_size Means c m numbers h i k same read keep ws is).0 in
      keep_freed Means c n m numbers h ws is (free m keep.means size) lengths row made freed keep;
}

pub made_as : {R : Type 0} (Means : R → Heap → Type 0) (c n : Cells R) (h : ℕ) (vs : List Value)
    → h < 2 ^ 62 → length vs ≤ heap_words → c.made < most_cells
    → ((m : Heap) → Means c.store m → words_at m.cells h ≡ None) → ((m : Heap) → Means c.store m → Means n.store (allocated m h vs))
    → n.lengths ≡ set (padded c.lengths h) h (length vs) → n.numbers ≡ set (padded c.numbers h) h (suc c.made)
    → n.made ≡ suc c.made → n.freed ≡ c.freed → n.live ≡ c.live + length vs → IsMadeAs Means c h vs n
made_as Means c n h vs small short few new allocate lengths row made freed live = record {
  small = small;
  made = made;
  freed = freed;
  live = live;
  unused = λ m numbers keep. new m keep.means;
  keep = λ m numbers keep. keep_made Means c n m numbers h vs small short few (new m keep.means) (allocate m keep.means) lengths row made freed keep;
}
