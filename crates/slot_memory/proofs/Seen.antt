-- What stands in cells of slots that a memory stands for.
use Rattle.std.proofs.Common.{◌≡◌, ℕ, zero, suc, ◌+◌, ◌-◌, ◌<◌, ◌≤◌, ◌^◌, Bool, true, false, ◌&&◌, Option, None, Some, IsSomeAnd, List, [], ◌∷◌, ◌++◌, length, take, drop, map, slice_get, unsigned_abs, refl, sym, ap, subst, ◌∙◌, arith, ℤ, pos, negsuc, nat_lt, if◌then◌else◌}
use Rattle.std.proofs.lemmas.List.{length-drop}
use Rattle.run_values.specs.declared.value.Value.{Value}
use Rattle.run_values.specs.declared.value.Value.TheVariants as value
use Rattle.run_values.specs.declared.value.Kind.{Kind}
use Rattle.run_values.specs.declared.value.Kind.TheVariants as sort
use Rattle.run_values.specs.Values.{kind}
use Rattle.machine.specs.Evaluate.{heap_words}
use Rattle.run_codes.specs.Flat.{Given, Broken, and_then, is_broken, same_kind, have_kinds, InCell, most_offsets}
use Rattle.slot_heap.specs.Heaps.{Heap, words_at, word_at, written, Holds}
use Rattle.slot_heap.proofs.Places.{and_then_split, is_within}
use Rattle.handled_runs.specs.Fits.{are_slot_words}
use Rattle.handled_runs.specs.Changes.{slot_values, written_all, with_heap, cell_stored, stored}
use Rattle.handled_runs.specs.Slots.{Slots, slot_word, of_kind, behind, behind_at, cell_spot, live_spot, cell_words, front, held}
use Rattle.slot_memory.specs.Cells.{Cells, Have}
use Rattle.slot_memory.specs.Memory.{Kept, Ghosts, Stands, Shows, Changes, slots}
use Rattle.slot_memory.specs.Moves.{Clears}
use Rattle.slot_memory.proofs.OfKinds.{never, and_first, and_second, tested, kind_is, kinds_within, one_kind, stands_below, drop_first, front_given}
use Rattle.slot_memory.proofs.Heaps.{SameSizes, same_written, same_written_all, size_words, holds_in, word_in, word_mapped, have_words, words_have}
use Rattle.slot_memory.proofs.Keeps.{keep_same}

-- ---- one word behind an access value

seen_of : (k : Kind) (x : Option Value) → is_broken (of_kind k x) ≡ false → (v : Value) × (x ≡ Some v) × (kind v ≡ k) × (of_kind k x ≡ Given (slot_word v))
seen_of k None is = absurd (never is)
seen_of k (Some v) is =
    let t = tested (same_kind (kind v) k) (Given (slot_word v)) is in
    (v, refl, kind_is (kind v) k t.0, t.2)

some_holds : (k : Kind) (x : Option Value) (v : Value) → x ≡ Some v → kind v ≡ k → IsSomeAnd x (λ u. kind u ≡ k)
some_holds k x v is same = subst (λ (y : Option Value). IsSomeAnd y (λ u. kind u ≡ k)) (sym is) same

-- A word of a kind stands there, at an offset that fits.
pub record IsSeen {R : Type 0} (Means : R → Heap → Type 0) (m : Kept R) (g : Ghosts) (h at : ℕ) (k : Kind) : Type 0 where
  pub small : h < 2 ^ 62
  pub offset : at < most_offsets
  pub holds : Holds g.heap h at k

live_small : {R : Type 0} (Means : R → Heap → Type 0) (m : Kept R) (g : Ghosts) (h : ℕ) (ws : List Value) → Stands Means m g → words_at g.heap.cells h ≡ Some ws
    → (h < 2 ^ 62) × (length ws ≤ heap_words)
live_small Means m g h ws stands is =
    let s = stands.cells.sized h (length ws) (size_words g.heap.cells h ws is) in
    (s.small, s.few)

seen_at : {R : Type 0} (Means : R → Heap → Type 0) (m : Kept R) (g : Ghosts) (h at : ℕ) (k : Kind) → Stands Means m g
    → is_broken (behind_at (slots m g) at k (suc h)) ≡ false → IsSeen Means m g h at k
seen_at Means m g h at k stands is =
    let s = seen_of k (word_at g.heap h at) is in
    let holds : Holds g.heap h at k = some_holds k (word_at g.heap h at) s.0 s.1 s.2 in
    let w = and_then_split (λ ws. slice_get ws at) (words_at g.heap.cells h) (λ v. kind v ≡ k) holds in
    let live = live_small Means m g h w.0 stands w.1 in
    let below = is_within w.0 at s.0 (sym (word_in g.heap h at w.0 w.1) ∙ s.1) in
    record {
      small = live.0;
      offset = omega (arith, below, live.1);
      holds = holds;
    }

before : (h : ℕ) → h ≡ suc h - 1
before h = omega arith

pub seen_behind : {R : Type 0} (Means : R → Heap → Type 0) (m : Kept R) (g : Ghosts) (pointer : ℤ) (at : ℕ) (k : Kind) → Stands Means m g
    → (unsigned_abs pointer ≡ 0 → ⊥) → is_broken (behind (slots m g) at k pointer) ≡ false → IsSeen Means m g (unsigned_abs pointer - 1) at k
seen_behind Means m g pointer at k stands some is = by (unsigned_abs pointer) some is
  where
    by : (n : ℕ) → (n ≡ 0 → ⊥) → is_broken (behind_at (slots m g) at k n) ≡ false → IsSeen Means m g (n - 1) at k
    by zero some is = absurd (some refl)
    by (suc h) some is = (let P : ℕ → Type 0 = λ i. IsSeen Means m g i at k in subst P (before h) (seen_at Means m g h at k stands is))

-- What is read there is given.
pub behind_given : {R : Type 0} (m : Kept R) (g : Ghosts) (pointer : ℤ) (at : ℕ) (k : Kind) (z : ℤ) → (unsigned_abs pointer ≡ 0 → ⊥)
    → is_broken (behind (slots m g) at k pointer) ≡ false → IsSomeAnd (word_at g.heap (unsigned_abs pointer - 1) at) (λ v. z ≡ slot_word v)
    → behind (slots m g) at k pointer ≡ Given z
behind_given m g pointer at k z some is read = by (unsigned_abs pointer) some is read
  where
    same : (x : Option Value) (v : Value) → x ≡ Some v → IsSomeAnd x (λ u. z ≡ slot_word u) → z ≡ slot_word v
    same x v e read = let r : IsSomeAnd (Some v) (λ u. z ≡ slot_word u) = subst (λ (y : Option Value). IsSomeAnd y (λ u. z ≡ slot_word u)) e read in r

    by : (n : ℕ) → (n ≡ 0 → ⊥) → is_broken (behind_at (slots m g) at k n) ≡ false → IsSomeAnd (word_at g.heap (n - 1) at) (λ v. z ≡ slot_word v)
        → behind_at (slots m g) at k n ≡ Given z
    by zero some is read = absurd (some refl)
    by (suc h) some is read =
        let s = seen_of k (word_at g.heap h at) is in
        let here : IsSomeAnd (word_at g.heap h at) (λ v. z ≡ slot_word v) =
        subst (λ i. IsSomeAnd (word_at g.heap i at) (λ v. z ≡ slot_word v)) (sym (before h)) read in
        s.3 ∙ ap (λ w. Given w) (sym (same (word_at g.heap h at) s.0 s.1 here))

pub behind_none : (s : Slots) (pointer : ℤ) (at : ℕ) (k : Kind) → unsigned_abs pointer ≡ 0 → behind s at k pointer ≡ behind_at s at k 0
behind_none s pointer at k is = ap (behind_at s at k) is

-- ---- words of kinds in a cell

-- As many words as there are kinds are given.
pub record ReadsIn {R : Type 0} (m : Kept R) (g : Ghosts) (h o : ℕ) (ks : List Kind) : Type 0 where
  pub words : List Value
  pub live : words_at g.heap.cells h ≡ Some words
  pub kinds : have_kinds ks (drop o words) ≡ true
  pub gives : held (slots m g) (InCell h o) ks ≡ Given (take (length ks) (drop o (map slot_word words)))

reads_of : (ks : List Kind) (o : ℕ) (x : Option (List Value)) → is_broken (cell_words ks o x) ≡ false
    → (ws : List Value) × (x ≡ Some ws) × (have_kinds ks (drop o ws) ≡ true) × (cell_words ks o x ≡ Given (take (length ks) (drop o (map slot_word ws))))
reads_of ks o None is = absurd (never is)
reads_of ks o (Some ws) is =
    let t = tested (have_kinds ks (drop o ws)) (front ks (drop o (map slot_word ws))) is in
    (ws, refl, t.0, t.2 ∙ front_given ks (drop o (map slot_word ws)) t.1)

pub reads_in : {R : Type 0} (m : Kept R) (g : Ghosts) (h o : ℕ) (ks : List Kind) → is_broken (held (slots m g) (InCell h o) ks) ≡ false → ReadsIn m g h o ks
reads_in m g h o ks is =
    let r = reads_of ks o (words_at g.heap.cells h) is in
    record { words = r.0; live = r.1; kinds = r.2; gives = r.3 }

pub have_read : {R : Type 0} (m : Kept R) (g : Ghosts) (h o : ℕ) (ks : List Kind) → ReadsIn m g h o ks → Have g.heap h o ks
have_read m g h o ks r = words_have g.heap h o ks r.words r.live r.kinds

-- Offsets fit.
pub offsets_in : {R : Type 0} (Means : R → Heap → Type 0) (m : Kept R) (g : Ghosts) (h o : ℕ) (ks : List Kind) → o < most_offsets → Stands Means m g
    → Have g.heap h o ks → o + length ks < most_offsets
offsets_in Means m g h o [] fits stands have = omega (arith, fits)
offsets_in Means m g h o (k ∷ ks) fits stands have =
    let w = have_words g.heap h o (k ∷ ks) have in
    let live = live_small Means m g h w.0 stands w.1 in
    let within = kinds_within (k ∷ ks) (drop o w.0) w.2 in
    omega (arith, live.1, within, length-drop o w.0)

-- ---- spots of cells

live_of : (h o : ℕ) (x : Option (List Value)) → is_broken (live_spot x h o) ≡ false
    → (ws : List Value) × (x ≡ Some ws)
live_of h o None is = absurd (never is)
live_of h o (Some ws) is = (ws, refl)

-- ---- what is read, as it is answered

pub abs_zero : (z : ℤ) → unsigned_abs z ≡ 0 → z ≡ pos 0
abs_zero (pos n) is = ap pos is
abs_zero (negsuc n) is = cc

pub read_behind : {R : Type 0} (Means : R → Heap → Type 0) (m : Kept R) (g : Ghosts) (pointer : ℤ) (at : ℕ) (k : Kind) (z : ℤ) (h : ℕ) → h ≡ unsigned_abs pointer - 1
    → Stands Means m g → (unsigned_abs pointer ≡ 0 → ⊥) → is_broken (behind (slots m g) at k pointer) ≡ false
    → (Holds g.heap h at k → IsSomeAnd (word_at g.heap h at) (λ v. z ≡ slot_word v)) → behind (slots m g) at k pointer ≡ Given z
read_behind Means m g pointer at k z h same stands some is read =
    let seen = seen_behind Means m g pointer at k stands some is in
    let P : ℕ → Type 0 = λ i. Holds g.heap i at k → IsSomeAnd (word_at g.heap i at) (λ v. z ≡ slot_word v) in
    behind_given m g pointer at k z some is (subst P same read seen.holds)

-- The handle of a spot that is there.
pub spot_small : {R : Type 0} (Means : R → Heap → Type 0) (m : Kept R) (g : Ghosts) (pointer : ℤ) (at : ℕ) → Stands Means m g → (unsigned_abs pointer ≡ 0 → ⊥)
    → is_broken (cell_spot (slots m g) at (unsigned_abs pointer)) ≡ false → unsigned_abs pointer - 1 < 2 ^ 62
spot_small Means m g pointer at stands some is = by (unsigned_abs pointer) some is
  where
    by : (n : ℕ) → (n ≡ 0 → ⊥) → is_broken (cell_spot (slots m g) at n) ≡ false → n - 1 < 2 ^ 62
    by zero some is = absurd (some refl)
    by (suc h) some is =
        let t = tested (nat_lt at most_offsets) (live_spot (words_at g.heap.cells h) h at) is in
        let w = live_of h at (words_at g.heap.cells h) t.1 in
        omega (arith, (live_small Means m g h w.0 stands w.1).0)

pub some_at : {A : Type 0} (x : Option A) (P : A → Type 0) (a : A) → x ≡ Some a → IsSomeAnd x P → P a
some_at {A = A} x P a is some = let here : IsSomeAnd (Some a) P = subst (λ (y : Option A). IsSomeAnd y P) is some in here

-- Words that are appended are those that are held.
pub appends_in : {R : Type 0} (m : Kept R) (g : Ghosts) (h o : ℕ) (ks : List Kind) (old new : List ℤ) (is : is_broken (held (slots m g) (InCell h o) ks) ≡ false)
    → (Have g.heap h o ks → IsSomeAnd (words_at g.heap.cells h) (λ ws. new ≡ old ++ take (length ks) (drop o (map slot_word ws))))
    → and_then (held (slots m g) (InCell h o) ks) (λ zs. Given (old ++ zs)) ≡ Given new
appends_in m g h o ks old new is pushed =
    let r = reads_in m g h o ks is in
    let e = some_at (words_at g.heap.cells h) (λ ws. new ≡ old ++ take (length ks) (drop o (map slot_word ws))) r.words r.live (pushed (have_read m g h o ks r)) in
    ap (λ x. and_then x (λ zs. Given (old ++ zs))) r.gives ∙ ap (λ l. Given l) (sym e)

-- One word of a kind in a cell.
pub one_holds : {R : Type 0} (m : Kept R) (g : Ghosts) (h o : ℕ) (k : Kind) → is_broken (held (slots m g) (InCell h o) (k ∷ [])) ≡ false → Holds g.heap h o k
one_holds m g h o k is =
    let r = reads_in m g h o (k ∷ []) is in
    holds_in g.heap h o k r.words r.live (one_kind r.words o k r.kinds)

pub one_read : {R : Type 0} (m : Kept R) (g : Ghosts) (h o : ℕ) (k : Kind) (z : ℤ) → is_broken (held (slots m g) (InCell h o) (k ∷ [])) ≡ false
    → (Holds g.heap h o k → IsSomeAnd (word_at g.heap h o) (λ v. z ≡ slot_word v)) → held (slots m g) (InCell h o) (k ∷ []) ≡ Given (z ∷ [])
one_read m g h o k z is read =
    let r = reads_in m g h o (k ∷ []) is in
    let there = word_mapped g.heap h o r.words z r.live (read (one_holds m g h o k is)) in
    r.gives ∙ ap (λ l. Given (take 1 l)) (drop_first o (map slot_word r.words) z there)

-- ---- what is stored in a cell

stores_of : (s : Slots) (h o : ℕ) (ks : List Kind) (zs : List ℤ) (x : Option (List Value)) → is_broken (cell_stored s h o ks zs x) ≡ false
    → (ws : List Value) × (x ≡ Some ws) × (are_slot_words ks zs ≡ true) × (have_kinds ks (drop o ws) ≡ true)
stores_of s h o ks zs None is = absurd (never is)
stores_of s h o ks zs (Some ws) is =
    let t = tested (are_slot_words ks zs && have_kinds ks (drop o ws)) (Given (with_heap s (written_all s.heap h o (slot_values ks zs)))) is in
    (ws, refl, and_first (are_slot_words ks zs) (have_kinds ks (drop o ws)) t.0, and_second (are_slot_words ks zs) (have_kinds ks (drop o ws)) t.0)

pub stores_fit : (s : Slots) (h o : ℕ) (ks : List Kind) (zs : List ℤ) → is_broken (stored s (InCell h o) ks zs) ≡ false
    → (are_slot_words ks zs ≡ true) × Have s.heap h o ks
stores_fit s h o ks zs is =
    let r = stores_of s h o ks zs (words_at s.heap.cells h) is in
    (r.2, words_have s.heap h o ks r.0 r.1 r.3)

stored_cell : (s t : Slots) (h o : ℕ) (ks : List Kind) (zs : List ℤ) → stored s (InCell h o) ks zs ≡ Given t
    → Have s.heap h o ks × (with_heap s (written_all s.heap h o (slot_values ks zs)) ≡ t)
stored_cell s t h o ks zs is =
    let fit = stores_fit s h o ks zs (ap is_broken is) in
    (fit.1, by (words_at s.heap.cells h) is)
  where
    by : (x : Option (List Value)) → cell_stored s h o ks zs x ≡ Given t → with_heap s (written_all s.heap h o (slot_values ks zs)) ≡ t
    by None e = cc
    by (Some ws) e = by_test (are_slot_words ks zs && have_kinds ks (drop o ws)) (with_heap s (written_all s.heap h o (slot_values ks zs))) e
      where
        by_test : (b : Bool) (u : Slots) → (if b then Given u else Broken) ≡ Given t → u ≡ t
        by_test true u e = cc
        by_test false u e = cc

-- A memory whose cells are others of the same sizes.
pub heap_shows : {R : Type 0} (Means : R → Heap → Type 0) (m : Kept R) (c : Cells R) (g : Ghosts) (n : Heap) → c ≡ record m.heap { store = c.store } → SameSizes g.heap n
    → Means c.store n → Stands Means m g → Shows Means (record m { heap = c }) (with_heap (slots m g) n)
heap_shows Means m c g n same sizes means stands =
    let P : Cells _ → Type 0 = λ k. Shows Means (record m { heap = k }) (with_heap (slots m g) n) in
    subst P (sym same) (record { cells = keep_same Means m.heap g.heap n g.numbers c.store sizes means stands.cells; moves = stands.moves }, refl)

pub cell_shows : {R : Type 0} (Means : R → Heap → Type 0) (m : Kept R) (c : Cells R) (h o : ℕ) (ks : List Kind) (zs : List ℤ) → c ≡ record m.heap { store = c.store }
    → ((x : Heap) → Means m.heap.store x → Have x h o ks → Means c.store (written_all x h o (slot_values ks zs))) → Changes Means m (λ s. stored s (InCell h o) ks zs) (record m { heap = c })
cell_shows Means m c h o ks zs same store = λ g stands t is.
    let s = stored_cell (slots m g) t h o ks zs is in
    let P : Slots → Type 0 = λ u. Shows Means (record m { heap = c }) u in
    subst P s.1
    (heap_shows Means m c g (written_all g.heap h o (slot_values ks zs)) same (same_written_all g.heap h o (slot_values ks zs)) (store g.heap stands.cells.means s.0) stands)

-- ---- null in a cell

pub holds_offset : {R : Type 0} (Means : R → Heap → Type 0) (m : Kept R) (g : Ghosts) (h o : ℕ) (k : Kind) → Stands Means m g → Holds g.heap h o k → o < most_offsets
holds_offset Means m g h o k stands holds =
    let w = and_then_split (λ ws. slice_get ws o) (words_at g.heap.cells h) (λ v. kind v ≡ k) holds in
    let live = live_small Means m g h w.0 stands w.1 in
    omega (arith, live.1, stands_below w.0 o k w.2)

pub null_shows : {R : Type 0} (Means : R → Heap → Type 0) (m : Kept R) (c : Cells R) (h o : ℕ) → c ≡ record m.heap { store = c.store }
    → ((x : Heap) → Means m.heap.store x → Holds x h o sort.Access → Means c.store (written x h o value.Null)) → Clears Means m (InCell h o) (record m { heap = c })
null_shows Means m c h o same store = λ g stands there.
    heap_shows Means m c g (written g.heap h o value.Null) same (same_written g.heap h o value.Null) (store g.heap stands.cells.means there) stands
