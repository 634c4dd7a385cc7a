-- What a heap says of a word, or of a cell, stands among the words that keep it.
use Rattle.std.proofs.Common.{◌≡◌, ℕ, zero, suc, ◌+◌, ◌<◌, Some, Option, IsSomeAnd, option_and_then, List, [], ◌∷◌, length, get_or, slice_get, refl, ap, subst, ◌∙◌, arith, ⊎_elim}
use Rattle.std.proofs.lemmas.Option.{slice_get_read}
use Rattle.run_values.specs.declared.value.Value.{Value}
use Rattle.run_values.specs.declared.value.Value.TheVariants as value
use Rattle.run_values.specs.declared.value.Kind.{Kind}
use Rattle.run_values.specs.Values.{kind}
use Rattle.slot_heap.specs.Heaps.{Heap, words_at, word_at, Holds, IsOfSize}
use Rattle.slot_heap.specs.Runs.{Kept, StandsAt, link}
use Rattle.slot_heap.proofs.Places.{some_split, and_then_split, stands_within}

-- The cell and the value there.
pub record Held (m : Heap) (h at : ℕ) (k : Kind) : Type 0 where
  pub words : List Value
  pub value : Value
  pub cell : words_at m.cells h ≡ Some words
  pub place : slice_get words at ≡ Some value
  pub word : word_at m h at ≡ Some value
  pub of : kind value ≡ k

pub held : (m : Heap) (h at : ℕ) (k : Kind) → Holds m h at k → Held m h at k
held m h at k holds =
    let f : List Value → Option Value = λ ws. slice_get ws at in
    let cell = and_then_split f (words_at m.cells h) (λ v. kind v ≡ k) holds in
    let place = some_split (slice_get cell.0 at) (λ v. kind v ≡ k) cell.2 in
    record {
      words = cell.0;
      value = place.0;
      cell = cell.1;
      place = place.1;
      word = ap (option_and_then f) cell.1 ∙ place.1;
      of = place.2;
    }

pub held_stands : {W : Type 0} (IsCode : W → Value → Type 0) {words heads : List W} {m : Heap} {h at : ℕ} {k : Kind} → Kept IsCode words heads m → (it : Held m h at k) → StandsAt IsCode words (h + at) it.value
held_stands IsCode {at = at} kept it = (kept.cells _ it.words it.cell).stand at it.value it.place

pub held_within : {W : Type 0} (IsCode : W → Value → Type 0) {words heads : List W} {m : Heap} (h at : ℕ) (k : Kind) → Kept IsCode words heads m → Holds m h at k → h + at < length words
held_within IsCode {words} {m = m} h at k kept holds =
    let it = held m h at k holds in
    stands_within words (h + at) (λ w. IsCode w it.value) (held_stands IsCode kept it)

-- What was read there has the code.
pub stands_read : {W : Type 0} (IsCode : W → Value → Type 0) (words : List W) (i : ℕ) (v : Value) (w : W) → slice_get words i ≡ Some w → StandsAt IsCode words i v → IsCode w v
stands_read {W = W} IsCode words i v w is stands =
    let P : Option W → Type 0 = λ o. IsSomeAnd o (λ x. IsCode x v) in
    subst P is stands

-- The same by an index that is the place.
pub code_read : {W : Type 0} (IsCode : W → Value → Type 0) (words : List W) (i j : ℕ) (v : Value) (w : W) → i ≡ j → w ≡ get_or words i w → StandsAt IsCode words j v → IsCode w v
code_read IsCode words i j v w same read stands =
    let within = stands_within words j (λ x. IsCode x v) stands in
    let read_there : ℕ → Type 0 = λ p. w ≡ get_or words p w in
    stands_read IsCode words j v w (slice_get_read words (length words) j w refl within (subst read_there same read)) stands

-- What is read there with a default has the code.
pub get_stands : {W : Type 0} (IsCode : W → Value → Type 0) (words : List W) (i : ℕ) (v : Value) (d : W) → StandsAt IsCode words i v → IsCode (get_or words i d) v
get_stands IsCode [] i v d stands = absurd stands
get_stands IsCode (w ∷ words) zero v d stands = stands
get_stands IsCode (w ∷ words) (suc i) v d stands = get_stands IsCode words i v d stands

-- A cell of a size.
pub record Sized (m : Heap) (h n : ℕ) : Type 0 where
  pub words : List Value
  pub cell : words_at m.cells h ≡ Some words
  pub size : length words ≡ n

pub sized : (m : Heap) (h n : ℕ) → IsOfSize m h n → Sized m h n
sized m h n is =
    let it = some_split (words_at m.cells h) (λ ws. length ws ≡ n) is in
    record { words = it.0; cell = it.1; size = it.2 }

-- The first free run of a size that is in the table.
pub first_stands : {W : Type 0} (IsCode : W → Value → Type 0) {words heads : List W} {m : Heap} (k : Kept IsCode words heads m) (n : ℕ) → n < length heads → StandsAt IsCode heads n (link (k.frees n))
first_stands IsCode k n within =
    ⊎_elim (λ there. there) (λ past. absurd (omega (arith, within, past.0))) (k.first n)

-- A link that designates something is of a list with a first, and one that designates nothing is of none.
pub link_some : (starts : List ℕ) (a : ℕ) → link starts ≡ value.Cell a → (rest : List ℕ) × (starts ≡ a ∷ rest)
link_some [] a is = let never : ⊥ = cc in absurd never
link_some (b ∷ rest) a is =
    let same : b ≡ a = cc in
    (rest, ap (λ c. c ∷ rest) same)

pub link_none : (starts : List ℕ) → ((a : ℕ) → link starts ≡ value.Cell a → ⊥) → starts ≡ []
link_none [] none = refl
link_none (b ∷ rest) none = absurd (none b refl)
