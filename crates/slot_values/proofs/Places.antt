-- What places hold, and what is moved from there.
use Rattle.std.proofs.Common.{◌≡◌, ◌≢◌, refl, sym, ap, ◌∙◌, ℕ, false, List, [], ◌∷◌, ◌++◌, ℤ, Result, Ok, Err}
use Rattle.std.specs.Prelude.{OnOk, OnErr, IsErrOf}
use Rattle.type_definitions.specs.Types.{Table}
use Rattle.run_values.specs.declared.value.Kind.{Kind}
use Rattle.run_values.specs.declared.value.Kind.TheVariants as sort
use Rattle.machine.specs.Words.{access_offsets}
use Rattle.slot_heap.specs.Heaps.{Heap}
use Rattle.code_rows.specs.declared.stop.Stop.{Stop}
use Rattle.code_rows.specs.declared.stop.Stop.TheVariants as stop
use Rattle.code_rows.specs.Stops.{stop_of}
use Rattle.run_codes.specs.Codes.{Place, Copied, Moved, MovedPointer}
use Rattle.run_codes.specs.Flat as flat
use Rattle.run_codes.specs.Flat.{Got, Given, Stops, and_then, is_broken, kinds}
use Rattle.handled_runs.specs.Slots.{Slots, spot, held}
use Rattle.handled_runs.specs.Changes.{moving}
use Rattle.handled_runs.specs.Values.{Outcome, Gives, Fails, Fills, reads}
use Rattle.slot_memory.specs.declared.spot.Spot.{Spot}
use Rattle.slot_memory.specs.Spots.{spot_of}
use Rattle.slot_memory.specs.Memory.{Kept, Ghosts, Stands, Knows, Always, Changes, slots}
use Rattle.slot_memory.specs.Answers.{Appends}
use Rattle.slot_hand.specs.Outcomes.{Answers}
use Rattle.slot_words.specs.Reading.{ReadsSpot, GivesSpot}
use Rattle.slot_values.specs.Fillings.{Fillable, Filled}
use Rattle.slot_values.proofs.Reading.{error_is, first_read, then_read, stops_here, reads_here, words_of}

-- ---- what is copied

module _ {R : Type 0} (Means : R → Heap → Type 0) (m : Kept R) (table : Table) (p : Place) (of : ℕ) where
  abbrev there : Slots → flat.Spot → Outcome
  there s q = reads s (held s q (kinds table of)) (λ zs. Gives zs s)

  copied_is : (s : Slots) (o : Outcome) → o ≡ reads s (spot s p) (there s) → Fills table (Copied p of) s o
  unfolding Fills
  copied_is s o is = is

  copied_safe : (s : Slots) → (Fills table (Copied p of) s Fails → ⊥) → is_broken (spot s p) ≡ false
  copied_safe s safe = first_read s (spot s p) (there s) (λ fails. safe (copied_is s Fails fails))

  held_safe : (s : Slots) (q : flat.Spot) → spot s p ≡ Given q → (Fills table (Copied p of) s Fails → ⊥) → is_broken (held s q (kinds table of)) ≡ false
  held_safe s q e safe =
      first_read s (held s q (kinds table of)) (λ zs. Gives zs s) (then_read s (spot s p) (there s) q e (λ fails. safe (copied_is s Fails fails)))

  pub copied_spot : Fillable Means m table (Copied p of) → ReadsSpot Means m p
  copied_spot is = record { ghosts = is.ghosts; stands = is.stands; whole = copied_safe (slots m is.ghosts) is.whole }

  pub copied_stops : {U : Type 0} (s : Stop) (old new : List ℤ) → GivesSpot Means m p (Err s) → Filled {U = U} Means m table (Copied p of) (Err s) old new m
  copied_stops s old new is = record {
    filled = λ g stands safe.
        stops_here Means (Fills table (Copied p of) (slots m g)) m g s stands
        (λ other. copied_is (slots m g) _ (ap (λ x. reads (slots m g) x (there (slots m g))) (sym (is.gives g stands (copied_safe (slots m g) safe)))));
  }

  pub copied_held : (q : Spot) → Fillable Means m table (Copied p of) → GivesSpot Means m p (Ok q)
      → Knows Means m (λ s. is_broken (held s (spot_of q) (kinds table of)) ≡ false)
  copied_held q is at = (is.ghosts, (is.stands, held_safe (slots m is.ghosts) (spot_of q) (at.gives is.ghosts is.stands (copied_safe (slots m is.ghosts) is.whole)) is.whole))

  pub copied_makes : {U : Type 0} (q : Spot) (r : Result U Stop) (old new : List ℤ) → GivesSpot Means m p (Ok q)
      → Always Means m (λ s. is_broken (held s (spot_of q) (kinds table of)) ≡ false → Appends (held s (spot_of q) (kinds table of)) r old new)
      → Filled Means m table (Copied p of) r old new m
  copied_makes q r old new at is = record {
    filled = λ g stands safe.
        let e = at.gives g stands (copied_safe (slots m g) safe) in
        reads_here Means (Fills table (Copied p of) (slots m g)) m g (held (slots m g) (spot_of q) (kinds table of)) r old new stands
        (λ o is_there. copied_is (slots m g) o (is_there ∙ ap (λ x. reads (slots m g) x (there (slots m g))) (sym e)))
        (is g stands (held_safe (slots m g) (spot_of q) e safe));
  }

pub ruleset copied_rules = (copied_spot, copied_stops, copied_held, copied_makes)

-- ---- what is moved

-- Words stand at a spot, and what is moved from there is noted.
abbrev pub moved_from : Slots → flat.Spot → List Kind → List ℕ → Outcome
moved_from s q ks gone = reads s (held s q ks) (λ zs. Gives zs (moving s q ks gone))

module _ {R U : Type 0} (Means : R → Heap → Type 0) (P : Outcome → Type 0) (m now : Kept R) (g : Ghosts) (q : flat.Spot) (ks : List Kind) (gone : List ℕ) where
  -- it is noted, or there is too little memory
  pub moves_here : (zs : List ℤ) (r : Result U Stop) (old new : List ℤ) → Stands Means m g → held (slots m g) q ks ≡ Given zs
      → ((o : Outcome) → o ≡ moved_from (slots m g) q ks gone → P o) → OnOk r (Changes Means m (λ s. Given (moving s q ks gone)) now) → OnErr r (IsErrOf r stop.Memory)
      → OnOk r (new ≡ old ++ zs) → Answers Means P r old new now
  moves_here zs (Ok u) old new stands e may moved memory appended = record {
    words = zs;
    after = moving (slots m g) q ks gone;
    may = may (Gives zs (moving (slots m g) q ks gone)) (ap (λ x. reads (slots m g) x (λ us. Gives us (moving (slots m g) q ks gone))) (sym e));
    appended = appended;
    shows = moved g stands (moving (slots m g) q ks gone) refl;
  }
  moves_here zs (Err s) old new stands e may moved memory appended = λ other. absurd (other (error_is s stop.Memory memory))

module _ {R : Type 0} (Means : R → Heap → Type 0) (m : Kept R) (table : Table) (p : Place) (of : ℕ) where
  abbrev ks : List Kind
  ks = kinds table of

  abbrev gone : List ℕ
  gone = access_offsets table of

  abbrev from : Slots → flat.Spot → Outcome
  from s q = moved_from s q ks gone

  moved_is : (s : Slots) (o : Outcome) → o ≡ reads s (spot s p) (from s) → Fills table (Moved p of) s o
  unfolding Fills
  moved_is s o is = is

  moved_safe : (s : Slots) → (Fills table (Moved p of) s Fails → ⊥) → is_broken (spot s p) ≡ false
  moved_safe s safe = first_read s (spot s p) (from s) (λ fails. safe (moved_is s Fails fails))

  stands_safe : (s : Slots) (q : flat.Spot) → spot s p ≡ Given q → (Fills table (Moved p of) s Fails → ⊥) → is_broken (held s q ks) ≡ false
  stands_safe s q e safe =
      first_read s (held s q ks) (λ zs. Gives zs (moving s q ks gone)) (then_read s (spot s p) (from s) q e (λ fails. safe (moved_is s Fails fails)))

  pub moved_spot : Fillable Means m table (Moved p of) → ReadsSpot Means m p
  moved_spot is = record { ghosts = is.ghosts; stands = is.stands; whole = moved_safe (slots m is.ghosts) is.whole }

  pub moved_stops : {U : Type 0} (s : Stop) (old new : List ℤ) → GivesSpot Means m p (Err s) → Filled {U = U} Means m table (Moved p of) (Err s) old new m
  moved_stops s old new is = record {
    filled = λ g stands safe.
        stops_here Means (Fills table (Moved p of) (slots m g)) m g s stands
        (λ other. moved_is (slots m g) _ (ap (λ x. reads (slots m g) x (from (slots m g))) (sym (is.gives g stands (moved_safe (slots m g) safe)))));
  }

  pub moved_held : (q : Spot) → Fillable Means m table (Moved p of) → GivesSpot Means m p (Ok q) → Knows Means m (λ s. is_broken (held s (spot_of q) (kinds table of)) ≡ false)
  moved_held q is at = (is.ghosts, (is.stands, stands_safe (slots m is.ghosts) (spot_of q) (at.gives is.ghosts is.stands (moved_safe (slots m is.ghosts) is.whole)) is.whole))

  pub moved_held_stops : {U : Type 0} (q : Spot) (s : Stop) (old new : List ℤ) → GivesSpot Means m p (Ok q)
      → Always Means m (λ t. is_broken (held t (spot_of q) (kinds table of)) ≡ false → s ≢ stop.Memory → held t (spot_of q) (kinds table of) ≡ Stops (stop_of s))
      → Filled {U = U} Means m table (Moved p of) (Err s) old new m
  moved_held_stops q s old new at is = record {
    filled = λ g stands safe.
        let e = at.gives g stands (moved_safe (slots m g) safe) in
        stops_here Means (Fills table (Moved p of) (slots m g)) m g s stands
        (λ other. moved_is (slots m g) _ (sym (ap (λ x. reads (slots m g) x (from (slots m g))) e
        ∙ ap (λ x. reads (slots m g) x (λ zs. Gives zs (moving (slots m g) (spot_of q) ks gone))) (is g stands (stands_safe (slots m g) (spot_of q) e safe) other))));
  }

  pub moved_makes : {U : Type 0} (q : Spot) (r : Result U Stop) (old now new : List ℤ) (n : Kept R) → GivesSpot Means m p (Ok q)
      → Always Means m (λ s. is_broken (held s (spot_of q) (kinds table of)) ≡ false → and_then (held s (spot_of q) (kinds table of)) (λ zs. Given (old ++ zs)) ≡ Given now)
      → OnOk r (Changes Means m (λ s. Given (moving s (spot_of q) (kinds table of) (access_offsets table of))) n) → OnErr r (IsErrOf r stop.Memory)
      → new ≡ now → Filled Means m table (Moved p of) r old new n
  moved_makes q r old now new n at is moved memory same = record {
    filled = λ g stands safe.
        let e = at.gives g stands (moved_safe (slots m g) safe) in
        let found = words_of (held (slots m g) (spot_of q) ks) old now (is g stands (stands_safe (slots m g) (spot_of q) e safe)) in
        moves_here Means (Fills table (Moved p of) (slots m g)) m n g (spot_of q) ks gone found.0 r old new stands found.1
        (λ o is_there. moved_is (slots m g) o (is_there ∙ ap (λ x. reads (slots m g) x (from (slots m g))) (sym e)))
        moved memory (on_ok r (same ∙ found.2));
  }
    where
      on_ok : {A : Type 0} {U : Type 0} (r : Result U Stop) → A → OnOk r A
      on_ok (Ok u) a = a
      on_ok (Err s) a = tt

pub ruleset moved_rules = (moved_spot, moved_stops, moved_held, moved_held_stops, moved_makes)

-- ---- one access value

module _ {R : Type 0} (Means : R → Heap → Type 0) (m : Kept R) (table : Table) (p : Place) where
  abbrev one : List Kind
  one = sort.Access ∷ []

  abbrev first : List ℕ
  first = 0 ∷ []

  abbrev out : Slots → flat.Spot → Outcome
  out s q = moved_from s q one first

  pointer_is : (s : Slots) (o : Outcome) → o ≡ reads s (spot s p) (out s) → Fills table (MovedPointer p) s o
  unfolding Fills
  pointer_is s o is = is

  pointer_safe : (s : Slots) → (Fills table (MovedPointer p) s Fails → ⊥) → is_broken (spot s p) ≡ false
  pointer_safe s safe = first_read s (spot s p) (out s) (λ fails. safe (pointer_is s Fails fails))

  word_safe : (s : Slots) (q : flat.Spot) → spot s p ≡ Given q → (Fills table (MovedPointer p) s Fails → ⊥) → is_broken (held s q one) ≡ false
  word_safe s q e safe =
      first_read s (held s q one) (λ zs. Gives zs (moving s q one first)) (then_read s (spot s p) (out s) q e (λ fails. safe (pointer_is s Fails fails)))

  pub pointer_spot : Fillable Means m table (MovedPointer p) → ReadsSpot Means m p
  pointer_spot is = record { ghosts = is.ghosts; stands = is.stands; whole = pointer_safe (slots m is.ghosts) is.whole }

  pub pointer_stops : {U : Type 0} (s : Stop) (old new : List ℤ) → GivesSpot Means m p (Err s) → Filled {U = U} Means m table (MovedPointer p) (Err s) old new m
  pointer_stops s old new is = record {
    filled = λ g stands safe.
        stops_here Means (Fills table (MovedPointer p) (slots m g)) m g s stands
        (λ other. pointer_is (slots m g) _ (ap (λ x. reads (slots m g) x (out (slots m g))) (sym (is.gives g stands (pointer_safe (slots m g) safe)))));
  }

  pub pointer_held : (q : Spot) → Fillable Means m table (MovedPointer p) → GivesSpot Means m p (Ok q) → Knows Means m (λ s. is_broken (held s (spot_of q) (sort.Access ∷ [])) ≡ false)
  pointer_held q is at = (is.ghosts, (is.stands, word_safe (slots m is.ghosts) (spot_of q) (at.gives is.ghosts is.stands (pointer_safe (slots m is.ghosts) is.whole)) is.whole))

  -- nothing is told where there is too little memory
  pub pointer_memory : {U : Type 0} (s : Stop) (old new : List ℤ) (n : Kept R) → s ≡ stop.Memory → Filled {U = U} Means m table (MovedPointer p) (Err s) old new n
  pointer_memory s old new n is = record { filled = λ g stands safe other. absurd (other is) }

  pub pointer_makes : {U : Type 0} (q : Spot) (w : ℤ) (r : Result U Stop) (old new : List ℤ) (n : Kept R) → GivesSpot Means m p (Ok q)
      → Always Means m (λ s. is_broken (held s (spot_of q) (sort.Access ∷ [])) ≡ false → held s (spot_of q) (sort.Access ∷ []) ≡ Given (w ∷ []))
      → ((ks : List Kind) → Changes Means m (λ s. Given (moving s (spot_of q) ks (0 ∷ []))) n)
      → OnOk r (new ≡ old ++ w ∷ []) → OnErr r (IsErrOf r stop.Memory) → Filled Means m table (MovedPointer p) r old new n
  pointer_makes q w (Ok u) old new n at is moved pushed memory = record {
    filled = λ g stands safe.
        let e = at.gives g stands (pointer_safe (slots m g) safe) in
        moves_here Means (Fills table (MovedPointer p) (slots m g)) m n g (spot_of q) one first (w ∷ []) (Ok u) old new stands
        (is g stands (word_safe (slots m g) (spot_of q) e safe))
        (λ o is_there. pointer_is (slots m g) o (is_there ∙ ap (λ x. reads (slots m g) x (out (slots m g))) (sym e)))
        (moved one) memory pushed;
  }
  pointer_makes q w (Err s) old new n at is moved pushed memory = record { filled = λ g stands safe other. absurd (other (error_is s stop.Memory memory)) }

pub ruleset pointer_rules = (pointer_spot, pointer_stops, pointer_held, pointer_memory, pointer_makes)
