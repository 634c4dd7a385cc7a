-- One word, which is put at an offset in the frame or stored at a place.
use Rattle.std.proofs.Common.{◌≡◌, ℕ, suc, ◌+◌, ◌<◌, Bool, true, false, List, [], ◌∷◌, ◌++◌, length, set, take, drop, slice_get, refl, sym, ap, subst, ◌∙◌, arith, ℤ, pos, nat_le, Ok, Err, if◌then◌else◌}
use Rattle.std.proofs.lemmas.Grind.{common_steps}
use Rattle.std.proofs.lemmas.List.{set_split}
use Rattle.std.proofs.lemmas.Option.{slice_get-get_or}
use Rattle.run_values.specs.declared.value.Kind.{Kind}
use Rattle.slot_heap.specs.Heaps.{Heap}
use Rattle.run_codes.specs.Codes.{Code, Place}
use Rattle.run_codes.specs.Flat.{Got, Given, Broken, found, is_broken, spliced, checked}
use Rattle.code_rows.specs.declared.stop.Stop.{Stop}
use Rattle.code_rows.specs.Stops.{shown}
use Rattle.handled_runs.specs.Slots.{Slots, word, spot}
use Rattle.handled_runs.specs.Changes.{with_stack, stored}
use Rattle.handled_steps.specs.Steps.{in_stack, put_words}
use Rattle.slot_memory.specs.declared.spot.Spot as declared
use Rattle.slot_memory.specs.Spots.{spot_of}
use Rattle.slot_memory.specs.Memory.{Kept, Ghosts, Stands, Shows, Knows, Changes, slots}
use Rattle.slot_words.specs.Reading.{Reads, Gives, ReadsSpot, GivesSpot}
use Rattle.slot_words.proofs.Never.{stored_never}
use Rattle.slot_points.specs.Changing.{Whole, Done}
use Rattle.slot_points.specs.Steps.{only, put_word, put_checked, put_pointer, word_in, pointer_ended, ended_pointer, store_word, placed, stored_checked}
use Rattle.slot_points.proofs.Doing.{word_reads, word_found, spot_reads, knows, first, next, next_of, stops, stops_of, done_next, done_of, within, bounded, bounded_stops, changed_done}

-- ---- one word of the stack

pub one_spliced : (xs : List ℤ) (n : ℕ) (w : ℤ) → n < length xs → spliced n (w ∷ []) xs ≡ set xs n w
one_spliced xs n w lt =
    joined (take n xs) (drop (n + 1) xs) w ∙ ap (λ k. take n xs ++ w ∷ drop k xs) (plus_one n) ∙ sym (set_split xs n w lt)
  where
    plus_one : (n : ℕ) → n + 1 ≡ suc n
    plus_one n = omega arith

    joined : (a b : List ℤ) (w : ℤ) → a ++ (w ∷ []) ++ b ≡ a ++ w ∷ b
    joined a b w = grind (arith, common_steps)

module _ {R : Type 0} (Means : R → Heap → Type 0) where
  in_frame : (m : Kept R) (at : ℕ) (w : ℤ) → Knows Means m (λ s. is_broken (put_words s at (w ∷ [])) ≡ false) → m.base + at < length m.stack
  in_frame m at w (g, (stands, whole)) = by (nat_le (m.base + at + 1) (length m.stack)) refl whole
    where
      by : (b : Bool) → b ≡ nat_le (m.base + at + 1) (length m.stack)
          → is_broken (if b then Given (with_stack (slots m g) (spliced (m.base + at) (w ∷ []) m.stack)) else Broken) ≡ false → m.base + at < length m.stack
      by true e is = grind (arith, e)
      by false e is = cc

  pub one_there : (m : Kept R) (at : ℕ) (w : ℤ) → Knows Means m (λ s. is_broken (put_words s at (w ∷ [])) ≡ false)
      → is_broken (found (slice_get m.stack (m.base + at))) ≡ false
  one_there m at w is = ap (λ o. is_broken (found o)) (slice_get-get_or m.stack (m.base + at) (pos 0) (in_frame m at w is))

  one_shows : (m : Kept R) (g : Ghosts) (at : ℕ) (w : ℤ) (t : Slots) → Stands Means m g → put_words (slots m g) at (w ∷ []) ≡ Given t
      → Shows Means (record m { stack = set m.stack (m.base + at) w }) t
  one_shows m g at w t stands e = by (nat_le (m.base + at + 1) (length m.stack)) refl e
    where
      n : Kept R
      n = record m { stack = set m.stack (m.base + at) w }

      by : (b : Bool) → b ≡ nat_le (m.base + at + 1) (length m.stack)
          → (if b then Given (with_stack (slots m g) (spliced (m.base + at) (w ∷ []) m.stack)) else Broken) ≡ Given t → Shows Means n t
      by true less e =
          let same : with_stack (slots m g) (spliced (m.base + at) (w ∷ []) m.stack) ≡ t = cc in
          let put : spliced (m.base + at) (w ∷ []) m.stack ≡ set m.stack (m.base + at) w = one_spliced m.stack (m.base + at) w (grind (arith, less)) in
          subst (Shows Means n) same (record { cells = stands.cells; moves = stands.moves }, ap (with_stack (slots m g)) (sym put))
      by false less e = cc

  pub one_changes : (m n : Kept R) (at : ℕ) (w u : ℤ) → n ≡ record m { stack = set m.stack (m.base + at) u } → u ≡ w → Changes Means m (λ s. put_words s at (w ∷ [])) n
  one_changes m n at w u is e = λ g stands t there.
      subst (λ x. Shows Means x t) (sym (is ∙ ap (λ i. record m { stack = set m.stack (m.base + at) i }) e)) (one_shows m g at w t stands there)

  -- ---- a value within bounds is put

  module _ (m : Kept R) (at : ℕ) (c : Code) (low high : ℤ) where
    pub put_reads : Whole Means m (put_checked at c low high) → Reads Means m c
    put_reads is = word_reads Means m c (first Means m (λ s. word s c) (λ s. checked low high) (first Means m (within Means m c low high) (put_word at) is))

    pub put_stops : (e : Stop) → Gives Means m c (Err e) → Done Means m (put_checked at c low high) (Err e) m
    put_stops e gives = stops Means m (within Means m c low high) (put_word at) e (bounded_stops Means m c low high e gives)

    pub put_bound_stops : (w : ℤ) (e : Stop) → Gives Means m c (Ok w) → checked low high w ≡ shown {A = ℤ} (Err e) → Done Means m (put_checked at c low high) (Err e) m
    put_bound_stops w e gives is =
        stops Means m (within Means m c low high) (put_word at) e (bounded Means m c low high w (Err e) gives is)

    pub put_known : (w v x : ℤ) → Whole Means m (put_checked at c low high) → Gives Means m c (Ok w) → checked low high w ≡ shown {A = ℤ} (Ok v) → x ≡ v
        → Knows Means m (λ s. is_broken (put_words s at (x ∷ [])) ≡ false)
    put_known w v x is gives e put =
        knows Means m (λ s. put_words s at (x ∷ [])) (first Means m (λ s. put_words s at (x ∷ [])) (λ s. only)
        (subst (λ i. Whole Means m (λ s. put_word at s i)) (sym put)
        (next Means m (within Means m c low high) (put_word at) v is (bounded Means m c low high w (Ok v) gives e))))

    pub put_done : (w v x : ℤ) (n : Kept R) → Gives Means m c (Ok w) → checked low high w ≡ shown {A = ℤ} (Ok v) → Changes Means m (λ s. put_words s at (x ∷ [])) n → x ≡ v → Done Means m (put_checked at c low high) (Ok tt) n
    put_done w v x n gives e changes put =
        done_next Means m (within Means m c low high) (put_word at) v (Ok tt) n (bounded Means m c low high w (Ok v) gives e)
        (changed_done Means m n (λ s. put_words s at (v ∷ [])) (λ s. only) (λ s. stored_never s (in_stack s at) [] (v ∷ [])) tt
        (subst (λ i. Changes Means m (λ s. put_words s at (i ∷ [])) n) put changes) (λ s t. refl))

  -- ---- an access value is put

  module _ (m : Kept R) (at : ℕ) (c : Code) where
    pub pointer_reads : Whole Means m (put_pointer at c) → Reads Means m c
    pointer_reads is = word_reads Means m c (first Means m (λ s. word s c) (put_word at) is)

    pub pointer_stops : (e : Stop) → Gives Means m c (Err e) → Done Means m (put_pointer at c) (Err e) m
    pointer_stops e gives = stops Means m (λ s. word s c) (put_word at) e (word_found Means m c (Err e) gives)

    pub pointer_known : (w x : ℤ) → Whole Means m (put_pointer at c) → Gives Means m c (Ok w) → x ≡ w → Knows Means m (λ s. is_broken (put_words s at (x ∷ [])) ≡ false)
    pointer_known w x is gives e =
        knows Means m (λ s. put_words s at (x ∷ [])) (first Means m (λ s. put_words s at (x ∷ [])) (λ s. only)
        (subst (λ i. Whole Means m (λ s. put_word at s i)) (sym e) (next Means m (λ s. word s c) (put_word at) w is (word_found Means m c (Ok w) gives))))

    pub pointer_done : (w x : ℤ) (n : Kept R) → Gives Means m c (Ok w) → Changes Means m (λ s. put_words s at (x ∷ [])) n → x ≡ w → Done Means m (put_pointer at c) (Ok tt) n
    pointer_done w x n gives changes e =
        done_next Means m (λ s. word s c) (put_word at) w (Ok tt) n (word_found Means m c (Ok w) gives)
        (changed_done Means m n (λ s. put_words s at (w ∷ [])) (λ s. only) (λ s. stored_never s (in_stack s at) [] (w ∷ [])) tt
        (subst (λ i. Changes Means m (λ s. put_words s at (i ∷ [])) n) e changes) (λ s t. refl))

  -- ---- the scope of an access value ends

  module _ (m : Kept R) (at : ℕ) where
    abbrev here : Slots → Got ℤ
    here s = word_in s (s.base + at)

    pub end_there : Whole Means m (ended_pointer at) → is_broken (found (slice_get m.stack (m.base + at))) ≡ false
    end_there is = (first Means m here (pointer_ended at) is).whole

    pub end_known : (w x : ℤ) → Whole Means m (ended_pointer at) → found (slice_get m.stack (m.base + at)) ≡ Given w → x ≡ pos 0
        → Knows Means m (λ s. is_broken (put_words s at (x ∷ [])) ≡ false)
    end_known w x is e zero =
        subst (λ i. Knows Means m (λ s. is_broken (put_words s at (i ∷ [])) ≡ false)) (sym zero)
        (knows Means m (λ s. put_words s at (pos 0 ∷ [])) (first Means m (λ s. put_words s at (pos 0 ∷ [])) (λ s t. Given (record { memory = t; answer = w }))
        (next_of Means m here (pointer_ended at) is (λ g stands there. e))))

    pub end_done : (w v x : ℤ) (n : Kept R) → found (slice_get m.stack (m.base + at)) ≡ Given w → Changes Means m (λ s. put_words s at (x ∷ [])) n → x ≡ pos 0 → v ≡ w
        → Done Means m (ended_pointer at) (Ok v) n
    end_done w v x n e changes zero same =
        subst (λ i. Done Means m (ended_pointer at) (Ok i) n) (sym same)
        (done_of Means m here (pointer_ended at) (Ok w) n (λ g stands there. e)
        (changed_done Means m n (λ s. put_words s at (pos 0 ∷ [])) (λ s t. Given (record { memory = t; answer = w })) (λ s. stored_never s (in_stack s at) [] (pos 0 ∷ [])) w
        (subst (λ i. Changes Means m (λ s. put_words s at (i ∷ [])) n) zero changes) (λ s t. refl)))

  -- ---- a value within bounds is stored at a place

  module _ (m : Kept R) (p : Place) (c : Code) (low high : ℤ) (k : Kind) where
    abbrev bound : Slots → Got ℤ
    bound = within Means m c low high

    pub store_reads : Whole Means m (stored_checked p c low high k) → Reads Means m c
    store_reads is = word_reads Means m c (first Means m (λ s. word s c) (λ s. checked low high) (first Means m bound (placed p k) is))

    pub store_stops : (e : Stop) → Gives Means m c (Err e) → Done Means m (stored_checked p c low high k) (Err e) m
    store_stops e gives = stops Means m bound (placed p k) e (bounded_stops Means m c low high e gives)

    module _ (w : ℤ) (gives : Gives Means m c (Ok w)) where
      pub store_bound_stops : (e : Stop) → checked low high w ≡ shown {A = ℤ} (Err e) → Done Means m (stored_checked p c low high k) (Err e) m
      store_bound_stops e is = stops Means m bound (placed p k) e (bounded Means m c low high w (Err e) gives is)

      module _ (v : ℤ) (e : checked low high w ≡ shown {A = ℤ} (Ok v)) where
        at_place : Whole Means m (stored_checked p c low high k) → Whole Means m (λ s. placed p k s v)
        at_place is = next Means m bound (placed p k) v is (bounded Means m c low high w (Ok v) gives e)

        pub store_place : Whole Means m (stored_checked p c low high k) → ReadsSpot Means m p
        store_place is = spot_reads Means m p (first Means m (λ s. spot s p) (store_word k v) (at_place is))

        pub store_place_stops : (x : Stop) → GivesSpot Means m p (Err x) → Done Means m (stored_checked p c low high k) (Err x) m
        store_place_stops x spots =
            done_next Means m bound (placed p k) v (Err x) m (bounded Means m c low high w (Ok v) gives e)
            (stops_of Means m (λ s. spot s p) (store_word k v) x spots.gives)

        pub store_known : (q : declared.Spot) (x : ℤ) → Whole Means m (stored_checked p c low high k) → GivesSpot Means m p (Ok q) → x ≡ v
            → Knows Means m (λ s. is_broken (stored s (spot_of q) (k ∷ []) (x ∷ [])) ≡ false)
        store_known q x is spots put =
            subst (λ i. Knows Means m (λ s. is_broken (stored s (spot_of q) (k ∷ []) (i ∷ [])) ≡ false)) (sym put)
            (knows Means m (λ s. stored s (spot_of q) (k ∷ []) (v ∷ [])) (first Means m (λ s. stored s (spot_of q) (k ∷ []) (v ∷ [])) (λ s. only)
            (next_of Means m (λ s. spot s p) (store_word k v) (at_place is) spots.gives)))

        pub store_done : (q : declared.Spot) (x : ℤ) (n : Kept R) → GivesSpot Means m p (Ok q) → Changes Means m (λ s. stored s (spot_of q) (k ∷ []) (x ∷ [])) n
            → x ≡ v → Done Means m (stored_checked p c low high k) (Ok tt) n
        store_done q x n spots changes put =
            done_next Means m bound (placed p k) v (Ok tt) n (bounded Means m c low high w (Ok v) gives e)
            (done_of Means m (λ s. spot s p) (store_word k v) (Ok tt) n spots.gives
            (changed_done Means m n (λ s. stored s (spot_of q) (k ∷ []) (v ∷ [])) (λ s. only) (λ s. stored_never s (spot_of q) (k ∷ []) (v ∷ [])) tt
            (subst (λ i. Changes Means m (λ s. stored s (spot_of q) (k ∷ []) (i ∷ [])) n) put changes) (λ s t. refl)))
