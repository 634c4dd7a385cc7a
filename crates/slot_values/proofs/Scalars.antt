-- Words of expressions, and access values that are looked at.
use Rattle.std.proofs.Common.{◌≡◌, refl, sym, ap, ◌∙◌, ℕ, false, List, [], ◌∷◌, ◌++◌, drop, ℤ, Result, Ok, Err}
use Rattle.std.specs.Prelude.{OnOk, OnErr, IsErrOf}
use Rattle.type_definitions.specs.Types.{Table}
use Rattle.slot_heap.specs.Heaps.{Heap}
use Rattle.code_rows.specs.declared.stop.Stop.{Stop}
use Rattle.code_rows.specs.declared.stop.Stop.TheVariants as stop
use Rattle.code_rows.specs.Stops.{stop_of}
use Rattle.run_codes.specs.Codes.{Code, Checked, Pointer, Waited, Default, Empty}
use Rattle.run_codes.specs.Flat.{Got, Given, Stops, and_then, is_broken, checked, some_words, default_words}
use Rattle.handled_runs.specs.Slots.{Slots, word}
use Rattle.handled_runs.specs.Values.{Outcome, Gives, Fails, Fills, reads}
use Rattle.slot_memory.specs.Memory.{Kept, slots}
use Rattle.slot_memory.specs.Answers.{Appends}
use Rattle.slot_words.specs.Reading.{Reads as ReadsWord, Gives as GivesWord}
use Rattle.slot_values.specs.Fillings.{Fillable, Filled}
use Rattle.slot_values.proofs.Reading.{first_read, whole_of, stops_here, gives_here, reads_here}
use Rattle.std.proofs.Common.{append-nil}

module _ {R : Type 0} (Means : R → Heap → Type 0) (m : Kept R) (table : Table) (c : Code) (low high : ℤ) where
  abbrev one : Slots → ℤ → Outcome
  one s w = Gives (w ∷ []) s

  abbrev got : Slots → Got ℤ
  got s = and_then (word s c) (checked low high)

  checked_is : (s : Slots) (o : Outcome) → o ≡ reads s (got s) (one s) → Fills table (Checked c low high) s o
  unfolding Fills
  checked_is s o is = is

  checked_safe : (s : Slots) → (Fills table (Checked c low high) s Fails → ⊥) → is_broken (word s c) ≡ false
  checked_safe s safe = whole_of (word s c) (checked low high) (first_read s (got s) (one s) (λ fails. safe (checked_is s Fails fails)))

  pub checked_word : Fillable Means m table (Checked c low high) → ReadsWord Means m c
  checked_word is = record { ghosts = is.ghosts; stands = is.stands; whole = checked_safe (slots m is.ghosts) is.whole }

  pub checked_stops : {U : Type 0} (s : Stop) (old new : List ℤ) → GivesWord Means m c (Err s) → Filled {U = U} Means m table (Checked c low high) (Err s) old new m
  checked_stops s old new is = record {
    filled = λ g stands safe.
        stops_here Means (Fills table (Checked c low high) (slots m g)) m g s stands
        (λ other. checked_is (slots m g) _ (ap (λ x. reads (slots m g) (and_then x (checked low high)) (one (slots m g)))
        (sym (is.gives g stands (checked_safe (slots m g) safe)))));
  }

  pub checked_out : {U : Type 0} (w : ℤ) (s : Stop) (old new : List ℤ) → GivesWord Means m c (Ok w) → checked low high w ≡ Stops (stop_of s)
      → Filled {U = U} Means m table (Checked c low high) (Err s) old new m
  checked_out w s old new is out = record {
    filled = λ g stands safe.
        stops_here Means (Fills table (Checked c low high) (slots m g)) m g s stands
        (λ other. checked_is (slots m g) _ (sym (ap (λ x. reads (slots m g) (and_then x (checked low high)) (one (slots m g))) (is.gives g stands (checked_safe (slots m g) safe))
        ∙ ap (λ x. reads (slots m g) x (one (slots m g))) out)));
  }

  pub checked_makes : {U : Type 0} (w z : ℤ) (old new : List ℤ) (r : Result U Stop) → GivesWord Means m c (Ok w) → checked low high w ≡ Given z
      → OnOk r (new ≡ old ++ z ∷ []) → OnErr r (IsErrOf r stop.Memory) → Filled Means m table (Checked c low high) r old new m
  checked_makes w z old new r is within pushed memory = record {
    filled = λ g stands safe.
        gives_here Means (Fills table (Checked c low high) (slots m g)) m g (z ∷ []) old new r stands
        (checked_is (slots m g) _ (sym (ap (λ x. reads (slots m g) (and_then x (checked low high)) (one (slots m g))) (is.gives g stands (checked_safe (slots m g) safe))
        ∙ ap (λ x. reads (slots m g) x (one (slots m g))) within))) pushed memory;
  }

pub ruleset checked_rules = (checked_word, checked_stops, checked_out, checked_makes)

module _ {R : Type 0} (Means : R → Heap → Type 0) (m : Kept R) (table : Table) (c : Code) where
  looked_is : (s : Slots) (o : Outcome) → o ≡ reads s (word s c) (λ w. Gives (w ∷ []) s) → Fills table (Pointer c) s o
  unfolding Fills
  looked_is s o is = is

  looked_safe : (s : Slots) → (Fills table (Pointer c) s Fails → ⊥) → is_broken (word s c) ≡ false
  looked_safe s safe = first_read s (word s c) (λ w. Gives (w ∷ []) s) (λ fails. safe (looked_is s Fails fails))

  pub looked_word : Fillable Means m table (Pointer c) → ReadsWord Means m c
  looked_word is = record { ghosts = is.ghosts; stands = is.stands; whole = looked_safe (slots m is.ghosts) is.whole }

  pub looked_stops : {U : Type 0} (s : Stop) (old new : List ℤ) → GivesWord Means m c (Err s) → Filled {U = U} Means m table (Pointer c) (Err s) old new m
  looked_stops s old new is = record {
    filled = λ g stands safe.
        stops_here Means (Fills table (Pointer c) (slots m g)) m g s stands
        (λ other. looked_is (slots m g) _ (ap (λ x. reads (slots m g) x (λ w. Gives (w ∷ []) (slots m g))) (sym (is.gives g stands (looked_safe (slots m g) safe)))));
  }

  pub looked_makes : {U : Type 0} (w : ℤ) (old new : List ℤ) (r : Result U Stop) → GivesWord Means m c (Ok w)
      → OnOk r (new ≡ old ++ w ∷ []) → OnErr r (IsErrOf r stop.Memory) → Filled Means m table (Pointer c) r old new m
  looked_makes w old new r is pushed memory = record {
    filled = λ g stands safe.
        gives_here Means (Fills table (Pointer c) (slots m g)) m g (w ∷ []) old new r stands
        (looked_is (slots m g) _ (sym (ap (λ x. reads (slots m g) x (λ w. Gives (w ∷ []) (slots m g))) (is.gives g stands (looked_safe (slots m g) safe))))) pushed memory;
  }

pub ruleset looked_rules = (looked_word, looked_stops, looked_makes)

-- ---- without an expression

module _ {R : Type 0} (Means : R → Heap → Type 0) (m : Kept R) (table : Table) where
  waited_is : (at n : ℕ) (s : Slots) (o : Outcome) → o ≡ reads s (some_words n (drop at s.waits)) (λ zs. Gives zs s) → Fills table (Waited at n) s o
  unfolding Fills
  waited_is at n s o is = is

  pub waited_whole : (at n : ℕ) → Fillable Means m table (Waited at n) → is_broken (some_words n (drop at (drop m.taken m.waits))) ≡ false
  waited_whole at n is =
      first_read (slots m is.ghosts) (some_words n (drop at (drop m.taken m.waits))) (λ zs. Gives zs (slots m is.ghosts))
      (λ fails. is.whole (waited_is at n (slots m is.ghosts) Fails fails))

  pub waited_makes : {U : Type 0} (at n : ℕ) (r : Result U Stop) (old new : List ℤ) → Appends (some_words n (drop at (drop m.taken m.waits))) r old new
      → Filled Means m table (Waited at n) r old new m
  waited_makes at n r old new is = record {
    filled = λ g stands safe.
        reads_here Means (Fills table (Waited at n) (slots m g)) m g (some_words n (drop at (drop m.taken m.waits))) r old new stands (λ o e. waited_is at n (slots m g) o e) is;
  }

  default_is : (of : ℕ) (s : Slots) → Fills table (Default of) s (Gives (default_words table of) s)
  unfolding Fills
  default_is of s = refl

  pub default_makes : {U : Type 0} (of : ℕ) (r : Result U Stop) (old new : List ℤ) → OnOk r (new ≡ old ++ default_words table of) → OnErr r (IsErrOf r stop.Memory)
      → Filled Means m table (Default of) r old new m
  default_makes of r old new pushed memory = record {
    filled = λ g stands safe.
        gives_here Means (Fills table (Default of) (slots m g)) m g (default_words table of) old new r stands (default_is of (slots m g)) pushed memory;
  }

  empty_is : (s : Slots) → Fills table Empty s (Gives [] s)
  unfolding Fills
  empty_is s = refl

  pub empty_makes : {U : Type 0} (u : U) (old : List ℤ) → Filled Means m table Empty (Ok u) old old m
  empty_makes u old = record {
    filled = λ g stands safe.
        record { words = []; after = slots m g; may = empty_is (slots m g); appended = sym (append-nil old); shows = (stands, refl) };
  }

pub ruleset waited_rules = (waited_whole, waited_makes)

pub ruleset default_rules = (default_makes)
