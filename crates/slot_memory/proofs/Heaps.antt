-- Heaps whose cells have the same sizes, and words of cells.
use Rattle.std.proofs.Common.{◌≡◌, ℕ, zero, suc, ◌+◌, ◌<◌, ◌≤◌, true, Option, Some, IsSomeAnd, option_and_then, List, [], ◌∷◌, length, drop, get_or, slice_get, slice_set, map, refl, sym, ap, subst, ◌∙◌, arith, ℤ, pos, length-set}
use Rattle.std.proofs.lemmas.Bool.Decides.{nat_tests}
use Rattle.std.proofs.lemmas.List.{drop-set-lt, drop_all}
use Rattle.run_values.specs.declared.value.Value.{Value}
use Rattle.run_values.specs.declared.value.Kind.{Kind}
use Rattle.run_values.specs.declared.value.Kind.TheVariants as sort
use Rattle.run_values.specs.Values.{kind}
use Rattle.run_codes.specs.Flat.{have_kinds}
use Rattle.slot_heap.specs.Heaps.{Cell, Heap, words_at, word_at, changed, written, Holds}
use Rattle.slot_heap.specs.Runs.{IsOnce}
use Rattle.slot_heap.proofs.Heaps.{words_at-changed_same, IsOnce-changed}
use Rattle.slot_heap.proofs.Places.{some_split}
use Rattle.handled_runs.specs.Slots.{slot_word}
use Rattle.handled_runs.specs.Changes.{slot_value, slot_values, written_all}
use Rattle.slot_memory.specs.Cells.{size_at, Have}
use Rattle.slot_memory.proofs.OfKinds.{StandsAt, stands_first, kinds_next, values_on}

-- ---- the same sizes

pub record SameSizes (m n : Heap) : Type 0 where
  pub sizes : (j : ℕ) → size_at n.cells j ≡ size_at m.cells j
  pub cells : length n.cells ≡ length m.cells
  pub slots : n.slots ≡ m.slots
  pub once : IsOnce m.cells → IsOnce n.cells

pub same_none : (m : Heap) → SameSizes m m
same_none m = record { sizes = λ j. refl; cells = refl; slots = refl; once = λ once. once }

pub same_then : (l m n : Heap) → SameSizes l m → SameSizes m n → SameSizes l n
same_then l m n a b = record {
  sizes = λ j. b.sizes j ∙ a.sizes j;
  cells = b.cells ∙ a.cells;
  slots = b.slots ∙ a.slots;
  once = λ once. b.once (a.once once);
}

set_long : (ws : List Value) (o : ℕ) (v : Value) → length (slice_set ws o v) ≡ length ws
set_long ws o v = length-set ws o v

size_changed : (cells : List Cell) (h o : ℕ) (v : Value) (j : ℕ) → size_at (changed (λ ws. slice_set ws o v) cells h) j ≡ size_at cells j
size_changed [] h o v j = refl
size_changed (c ∷ cells) h o v j =
    let here = set_long c.words o v in
    let others = size_changed cells h o v j in
    grind (arith, nat_tests)

long_changed : (cells : List Cell) (h o : ℕ) (v : Value) → length (changed (λ ws. slice_set ws o v) cells h) ≡ length cells
long_changed [] h o v = refl
long_changed (c ∷ cells) h o v =
    let others = long_changed cells h o v in
    grind (arith, nat_tests)

pub same_written : (m : Heap) (h o : ℕ) (v : Value) → SameSizes m (written m h o v)
same_written m h o v = record {
  sizes = size_changed m.cells h o v;
  cells = long_changed m.cells h o v;
  slots = refl;
  once = IsOnce-changed (λ ws. slice_set ws o v) m.cells h;
}

pub same_written_all : (m : Heap) (h o : ℕ) (vs : List Value) → SameSizes m (written_all m h o vs)
same_written_all m h o [] = same_none m
same_written_all m h o (v ∷ vs) =
    same_then m (written m h o v) (written_all (written m h o v) h (suc o) vs) (same_written m h o v) (same_written_all (written m h o v) h (suc o) vs)

-- ---- sizes and words

pub size_words : (cells : List Cell) (h : ℕ) (ws : List Value) → words_at cells h ≡ Some ws → size_at cells h ≡ Some (length ws)
size_words [] h ws is = cc
size_words (c ∷ cells) h ws is =
    let others = size_words cells h ws in
    grind (arith, nat_tests)

-- ---- words of cells

pub holds_in : (m : Heap) (h o : ℕ) (k : Kind) (ws : List Value) → words_at m.cells h ≡ Some ws → StandsAt ws o k → Holds m h o k
holds_in m h o k ws is stands =
    subst (λ (x : Option (List Value)). IsSomeAnd (option_and_then (λ us. slice_get us o) x) (λ v. kind v ≡ k)) (sym is) stands

pub word_in : (m : Heap) (h o : ℕ) (ws : List Value) → words_at m.cells h ≡ Some ws → word_at m h o ≡ slice_get ws o
word_in m h o ws is = ap (λ (x : Option (List Value)). option_and_then (λ us. slice_get us o) x) is

-- The words where some kinds stand.
pub have_words : (m : Heap) (h at : ℕ) (ks : List Kind) → Have m h at ks → (ws : List Value) × (words_at m.cells h ≡ Some ws) × (have_kinds ks (drop at ws) ≡ true)
have_words m h at ks have = some_split (words_at m.cells h) (λ ws. have_kinds ks (drop at ws) ≡ true) have

pub words_have : (m : Heap) (h at : ℕ) (ks : List Kind) (ws : List Value) → words_at m.cells h ≡ Some ws → have_kinds ks (drop at ws) ≡ true → Have m h at ks
words_have m h at ks ws is kinds = subst (λ (x : Option (List Value)). IsSomeAnd x (λ us. have_kinds ks (drop at us) ≡ true)) (sym is) kinds

pub words_written : (m : Heap) (h o : ℕ) (v : Value) (ws : List Value) → words_at m.cells h ≡ Some ws → words_at (written m h o v).cells h ≡ Some (slice_set ws o v)
words_written m h o v ws is = words_at-changed_same (λ us. slice_set us o v) m.cells h ws is

-- ---- steps of stores

pub have_next : (m : Heap) (h at i : ℕ) (ks : List Kind) (v : Value) → i < length ks → Have m h (at + i) (drop i ks)
    → Have (written m h (at + i) v) h (at + (i + 1)) (drop (i + 1) ks)
have_next m h at i ks v lt have =
    let w = have_words m h (at + i) (drop i ks) have in
    let kinds : have_kinds (drop (i + 1) ks) (drop (at + (i + 1)) (slice_set w.0 (at + i) v)) ≡ true =
    ap (λ l. have_kinds (drop (i + 1) ks) l) (drop-set-lt (at + (i + 1)) w.0 (at + i) v (omega arith)) ∙ kinds_next ks w.0 i at lt w.2 in
    words_have (written m h (at + i) v) h (at + (i + 1)) (drop (i + 1) ks) (slice_set w.0 (at + i) v) (words_written m h (at + i) v w.0 w.1) kinds

pub have_first : (m : Heap) (h at i : ℕ) (ks : List Kind) (d : Kind) → i < length ks → Have m h (at + i) (drop i ks) → Holds m h (at + i) (get_or ks i d)
have_first m h at i ks d lt have =
    let w = have_words m h (at + i) (drop i ks) have in
    holds_in m h (at + i) (get_or ks i d) w.0 w.1 (stands_first ks w.0 i (at + i) d lt w.2)

pub store_next : (m : Heap) (h at i : ℕ) (ks : List Kind) (zs : List ℤ) → i < length ks → i < length zs
    → written_all (written m h (at + i) (slot_value (get_or ks i sort.Int) (get_or zs i (pos 0)))) h (at + (i + 1)) (slot_values (drop (i + 1) ks) (drop (i + 1) zs))
    ≡ written_all m h (at + i) (slot_values (drop i ks) (drop i zs))
store_next m h at i ks zs lk lz =
    let v : Value = slot_value (get_or ks i sort.Int) (get_or zs i (pos 0)) in
    ap (λ o. written_all (written m h (at + i) v) h o (slot_values (drop (i + 1) ks) (drop (i + 1) zs))) (next at i)
    ∙ ap (λ l. written_all m h (at + i) l) (sym (values_on ks zs i sort.Int (pos 0) lk lz))
  where
    next : (a i : ℕ) → a + (i + 1) ≡ suc (a + i)
    next a i = omega arith

pub store_end : (m : Heap) (h o i : ℕ) (ks : List Kind) (zs : List ℤ) → length ks ≤ i → written_all m h o (slot_values (drop i ks) (drop i zs)) ≡ m
store_end m h o i ks zs le = ap (λ l. written_all m h o (slot_values l (drop i zs))) (drop_all i ks le)

-- ---- a store that goes word by word

-- A store means some heap. What is left to store leads to this end.
pub record Storing {R : Type 0} (Means : R → Heap → Type 0) (store : R) (end : Heap) (h o : ℕ) (ks : List Kind) (zs : List ℤ) : Type 0 where
  pub heap : Heap
  pub means : Means store heap
  pub rest : written_all heap h o (slot_values ks zs) ≡ end
  pub have : Have heap h o ks

pub storing_first : {R : Type 0} (Means : R → Heap → Type 0) (store : R) (m : Heap) (h o p : ℕ) (ks js : List Kind) (zs us : List ℤ) → p ≡ o → js ≡ ks → us ≡ zs
    → Means store m → Have m h o ks → Storing Means store (written_all m h o (slot_values ks zs)) h p js us
storing_first Means store m h o p ks js zs us ep ej eu means have = record {
  heap = m;
  means = means;
  rest = ap (λ i. written_all m h i (slot_values js us)) ep ∙ ap (λ l. written_all m h o (slot_values l us)) ej ∙ ap (λ l. written_all m h o (slot_values ks l)) eu;
  have = subst (λ i. Have m h i js) (sym ep) (subst (λ l. Have m h o l) (sym ej) have);
}

pub storing_holds : {R : Type 0} (Means : R → Heap → Type 0) (store : R) (end : Heap) (h at i : ℕ) (ks : List Kind) (zs : List ℤ) → i < length ks
    → (s : Storing Means store end h (at + i) (drop i ks) (drop i zs)) → Holds s.heap h (at + i) (get_or ks i sort.Int)
storing_holds Means store end h at i ks zs lt s = have_first s.heap h at i ks sort.Int lt s.have

pub storing_next : {R : Type 0} (Means : R → Heap → Type 0) (store new : R) (end : Heap) (h at i : ℕ) (ks : List Kind) (zs : List ℤ) → i < length ks → i < length zs
    → (s : Storing Means store end h (at + i) (drop i ks) (drop i zs)) → Means new (written s.heap h (at + i) (slot_value (get_or ks i sort.Int) (get_or zs i (pos 0))))
    → Storing Means new end h (at + (i + 1)) (drop (i + 1) ks) (drop (i + 1) zs)
storing_next Means store new end h at i ks zs lk lz s means = record {
  heap = written s.heap h (at + i) (slot_value (get_or ks i sort.Int) (get_or zs i (pos 0)));
  means = means;
  rest = store_next s.heap h at i ks zs lk lz ∙ s.rest;
  have = have_next s.heap h at i ks (slot_value (get_or ks i sort.Int) (get_or zs i (pos 0))) lk s.have;
}

pub storing_end : {R : Type 0} (Means : R → Heap → Type 0) (store : R) (end : Heap) (h o i : ℕ) (ks : List Kind) (zs : List ℤ) → length ks ≤ i
    → Storing Means store end h o (drop i ks) (drop i zs) → Means store end
storing_end Means store end h o i ks zs le s = subst (Means store) (sym (store_end s.heap h o i ks zs le) ∙ s.rest) s.means

-- ---- words that are read one after the other

mapped_at : (ws : List Value) (o : ℕ) (v : Value) → slice_get ws o ≡ Some v → slice_get (map slot_word ws) o ≡ Some (slot_word v)
mapped_at [] o v is = cc
mapped_at (w ∷ ws) zero v is = ap (λ (u : Value). Some (slot_word u)) (some_same w v is)
  where
    some_same : (a b : Value) → Some a ≡ Some b → a ≡ b
    some_same a b is = cc
mapped_at (w ∷ ws) (suc o) v is = mapped_at ws o v is

pub word_mapped : (m : Heap) (h o : ℕ) (ws : List Value) (z : ℤ) → words_at m.cells h ≡ Some ws → IsSomeAnd (word_at m h o) (λ v. z ≡ slot_word v)
    → slice_get (map slot_word ws) o ≡ Some z
word_mapped m h o ws z live read =
    let s = some_split (word_at m h o) (λ v. z ≡ slot_word v) read in
    mapped_at ws o s.0 (sym (word_in m h o ws live) ∙ s.1) ∙ ap (λ (x : ℤ). Some x) (sym s.2)
