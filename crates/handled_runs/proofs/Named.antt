-- Words with handles in place of numbers.
use Rattle.std.proofs.Common.{◌≡◌, refl, sym, ap, ◌∙◌, ℕ, zero, suc, ◌-◌, ◌==◌, ◌&&◌, arith, Bool, true, false, nat_lt, List, [], ◌∷◌, map, length, get_or, slice_get, option_and_then, Some, ℤ, pos, negsuc, if◌then◌else◌}
use Rattle.numbered_cells.specs.run_values.declared.value.Value.{Value}
use Rattle.numbered_cells.specs.run_values.declared.value.Value.TheVariants as value
use Rattle.numbered_cells.specs.run_values.declared.value.Kind.{Kind}
use Rattle.numbered_cells.specs.run_values.declared.value.Kind.TheVariants as sort
use Rattle.numbered_cells.specs.run_values.Values.{kind}
use Rattle.numbered_cells.specs.kept_cells.Cells.{Cell}
use Rattle.numbered_cells.specs.run_codes.Flat.{Flat, Got, Given, Stops, Broken, found, most_cells, most_offsets, gone_from, same_kind, word_of, value_word, touched, is_zero}
use Rattle.numbered_cells.specs.run_codes.Flat as flat
use Rattle.numbered_cells.specs.Follows.{handled}
use Rattle.handled_runs.specs.Slots.{Slots, slot_word, of_kind}
use Rattle.handled_runs.specs.Slots as slots
use Rattle.numbered_cells.specs.slot_heap.Heaps.{word_at}
use Rattle.handled_runs.specs.Beside.{GotsAlike, handle_word, renamed, all_renamed, mapped, Beside}
use Rattle.handled_runs.specs.Looks.{IsData, IsKept}
use Rattle.handled_runs.proofs.Gots.{gots_mapped, touched_gots}

-- ---- values

pub kind_same : (a k : Kind) → same_kind a k ≡ true → a ≡ k
kind_same sort.Int sort.Int e = refl
kind_same sort.Enum sort.Enum e = refl
kind_same sort.Access sort.Access e = refl
kind_same a k e = cc

pub kind_handled : (handles : List ℕ) (v : Value) → kind (handled handles v) ≡ kind v
kind_handled handles (value.Int i) = refl
kind_handled handles (value.Enum n) = refl
kind_handled handles value.Null = refl
kind_handled handles (value.Cell n) = by (nat_lt n gone_from)
  where
    by : (b : Bool) → kind (if b then value.Cell (get_or handles n 0) else value.Null) ≡ kind (value.Cell n)
    by true = refl
    by false = refl

pub value_renamed : (handles : List ℕ) (v : Value) → slot_word (handled handles v) ≡ renamed handles (kind v) (word_of v)
value_renamed handles (value.Int i) = refl
value_renamed handles (value.Enum n) = refl
value_renamed handles value.Null = refl
value_renamed handles (value.Cell n) = by (nat_lt n gone_from)
  where
    by : (b : Bool) → slot_word (if b then value.Cell (get_or handles n 0) else value.Null) ≡ handle_word handles (if b then pos (suc n) else negsuc (n - gone_from))
    by true = refl
    by false = refl

one_read : (handles : List ℕ) (v : Value) (k : Kind) → of_kind k (Some (handled handles v)) ≡ mapped (renamed handles k) (value_word k (Some v))
one_read handles v k =
    ap (λ j. if same_kind j k then Given (slot_word (handled handles v)) else Broken) (kind_handled handles v) ∙ by (same_kind (kind v) k) refl
  where
    by : (b : Bool) → same_kind (kind v) k ≡ b → (if b then Given (slot_word (handled handles v)) else Broken) ≡ mapped (renamed handles k) (if b then Given (word_of v) else Broken)
    by true is = ap Given (value_renamed handles v ∙ ap (λ j. renamed handles j (word_of v)) (kind_same (kind v) k is))
    by false is = refl

-- The word of a cell.
read_same : (handles : List ℕ) (ws : List Value) (o : ℕ) (k : Kind) → of_kind k (slice_get (map (handled handles) ws) o) ≡ mapped (renamed handles k) (value_word k (slice_get ws o))
read_same handles [] o k = refl
read_same handles (v ∷ ws) zero k = one_read handles v k
read_same handles (v ∷ ws) (suc o) k = read_same handles ws o k

-- ---- words of lists

pub slice_renamed : (handles : List ℕ) (ks : List Kind) (zs : List ℤ) (i : ℕ) (k : Kind) → slice_get ks i ≡ Some k
    → found (slice_get (all_renamed handles ks zs) i) ≡ mapped (renamed handles k) (found (slice_get zs i))
slice_renamed handles [] zs i k is = cc
slice_renamed handles (j ∷ ks) [] i k is = refl
slice_renamed handles (j ∷ ks) (z ∷ zs) zero k is = ap (λ x. Given (renamed handles x z)) (let same : j ≡ k = cc in same)
slice_renamed handles (j ∷ ks) (z ∷ zs) (suc i) k is = slice_renamed handles ks zs i k is

pub long_renamed : (handles : List ℕ) (ks : List Kind) (zs : List ℤ) → length ks ≡ length zs → length (all_renamed handles ks zs) ≡ length zs
long_renamed handles [] [] e = refl
long_renamed handles [] (z ∷ zs) e = cc
long_renamed handles (k ∷ ks) [] e = cc
long_renamed handles (k ∷ ks) (z ∷ zs) e = ap suc (long_renamed handles ks zs (let same : length ks ≡ length zs = cc in same))

-- ---- words that name no cell, and null

mapped_same : (f : ℤ → ℤ) → ((z : ℤ) → f z ≡ z) → (g : Got ℤ) → mapped f g ≡ g
mapped_same f same (Given z) = ap Given (same z)
mapped_same f same (Stops s) = refl
mapped_same f same Broken = refl

pub data_same : (handles : List ℕ) (k : Kind) → IsData k → (g : Got ℤ) → mapped (renamed handles k) g ≡ g
data_same handles sort.Int is g = mapped_same (renamed handles sort.Int) (λ z. refl) g
data_same handles sort.Enum is g = mapped_same (renamed handles sort.Enum) (λ z. refl) g
data_same handles sort.Access is g = absurd is

not_zero : (n : ℕ) → (suc n == 0) ≡ false
not_zero n = grind arith

pub zero_same : (handles : List ℕ) (z : ℤ) → IsKept z → is_zero (handle_word handles z) ≡ is_zero z
zero_same handles (pos zero) kept = refl
zero_same handles (pos (suc n)) kept = not_zero (get_or handles n 0) ∙ sym (not_zero n)
zero_same handles (negsuc n) kept = absurd kept

-- ---- through an access value

module _ (handles : List ℕ) (kinds taken : List Kind) (m : Flat) (s : Slots) (beside : Beside handles kinds taken m s) where
  cell_gots : (o : ℕ) (k : Kind) (n : ℕ)
      → GotsAlike (λ a b. b ≡ renamed handles k a) (touched (slice_get m.cells n) (λ (c : Cell). value_word k (slice_get c.words o))) (of_kind k (word_at s.heap (get_or handles n 0) o))
  cell_gots o k n =
      touched_gots (λ a b. b ≡ renamed handles k a) (slice_get m.cells n) (λ (c : Cell). value_word k (slice_get c.words o)) (of_kind k (word_at s.heap (get_or handles n 0) o))
      (λ ws there.
      gots_mapped (renamed handles k) (value_word k (slice_get ws o)) (of_kind k (word_at s.heap (get_or handles n 0) o))
      (ap (λ us. of_kind k (option_and_then (λ xs. slice_get xs o) us)) (beside.cells.live n ws there) ∙ read_same handles ws o k))

  -- The word of a kind in the cell that an access value designates.
  pub behind_gots : (o : ℕ) (k : Kind) (z : ℤ) → IsKept z → GotsAlike (λ a b. b ≡ renamed handles k a) (flat.behind m o k z) (slots.behind s o k (handle_word handles z))
  behind_gots o k (pos zero) kept = refl
  behind_gots o k (pos (suc n)) kept = by (nat_lt n most_cells && nat_lt o most_offsets)
    where
      by : (b : Bool)
          → GotsAlike (λ a b. b ≡ renamed handles k a) (if b then touched (slice_get m.cells n) (λ (c : Cell). value_word k (slice_get c.words o)) else Broken) (of_kind k (word_at s.heap (get_or handles n 0) o))
      by true = cell_gots o k n
      by false = tt
  behind_gots o k (negsuc n) kept = absurd kept
