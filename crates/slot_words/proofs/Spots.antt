-- Where places lead.
use Rattle.std.proofs.Common.{◌≡◌, refl, sym, ap, ◌∙◌, subst, ℕ, ◌+◌, ◌≤◌, arith, Bool, true, false, nat_le, length, ℤ, unsigned_abs, Result, Ok, Err, if◌then◌else◌}
use Rattle.std.proofs.lemmas.Bool.Decides.{nat_tests}
use Rattle.slot_heap.specs.Heaps.{Heap}
use Rattle.code_rows.specs.declared.stop.Stop.{Stop}
use Rattle.code_rows.specs.Stops.{stop_of, shown}
use Rattle.run_codes.specs.Codes.{Code, InFrame, InPackages, Behind}
use Rattle.run_codes.specs.Lowered.{no_index}
use Rattle.run_codes.specs.Flat.{Got, Given, Stops, Broken, InStack, and_then, is_broken}
use Rattle.run_codes.specs.Flat as flat
use Rattle.handled_runs.specs.Slots.{Slots, word, indexes, stack_spot, cell_spot, spot}
use Rattle.slot_memory.specs.declared.spot.Spot.{Spot}
use Rattle.slot_memory.specs.Spots.{spot_of, shown_spot}
use Rattle.slot_memory.specs.Memory.{Kept, slots}
use Rattle.slot_words.specs.Reading.{Reads, Gives, ReadsNames, GivesNames, ReadsCell, GivesCell, ReadsSpot, GivesSpot}
use Rattle.slot_words.proofs.Wholes.{first_whole, next_whole, first_stops, next_gives}
use Rattle.slot_words.proofs.Names.{behind_plain}

-- ---- places in the stack

within : (n l : ℕ) → is_broken (if nat_le n l then Given (InStack n) else Broken) ≡ false → n ≤ l
within n l is = by (nat_le n l) refl is
  where
    by : (b : Bool) → nat_le n l ≡ b → is_broken (if b then Given (InStack n) else Broken) ≡ false → n ≤ l
    by true less is = grind (arith, nat_tests, less)
    by false less is = cc

is_there : (n l : ℕ) → is_broken (if nat_le n l then Given (InStack n) else Broken) ≡ false → (if nat_le n l then Given (InStack n) else Broken) ≡ Given (InStack n)
is_there n l is = by (nat_le n l) is
  where
    by : (b : Bool) → is_broken (if b then Given (InStack n) else Broken) ≡ false → (if b then Given (InStack n) else Broken) ≡ Given (InStack n)
    by true is = refl
    by false is = cc

-- ---- of the frame

module _ {R : Type 0} (Means : R → Heap → Type 0) (m : Kept R) (at : ℕ) (i : Code) where
  pub frame_index : ReadsSpot Means m (InFrame at i) → Reads Means m i
  frame_index is = record { ghosts = is.ghosts; stands = is.stands; whole = first_whole (word (slots m is.ghosts) i) _ is.whole }

  pub frame_stops : (s : Stop) → Gives Means m i (Err s) → GivesSpot Means m (InFrame at i) (Err s)
  frame_stops s is = record { gives = λ g stands whole. first_stops (word (slots m g) i) _ (stop_of s) (is.gives g stands) whole }

  pub frame_room : (x : ℤ) → ReadsSpot Means m (InFrame at i) → Gives Means m i (Ok x) → m.base + at + unsigned_abs x ≤ length m.stack
  frame_room x is given =
      within (m.base + at + unsigned_abs x) (length m.stack)
      (next_whole (word (slots m is.ghosts) i) (λ o. stack_spot (slots m is.ghosts) (m.base + at + unsigned_abs o)) x (given.gives is.ghosts is.stands) is.whole)

  pub frame_gives : (x : ℤ) (q : Spot) → Gives Means m i (Ok x) → spot_of q ≡ InStack (m.base + at + unsigned_abs x) → GivesSpot Means m (InFrame at i) (Ok q)
  frame_gives x q given e = record {
    gives = λ g stands whole.
        next_gives (word (slots m g) i) (λ o. stack_spot (slots m g) (m.base + at + unsigned_abs o)) x (Given (spot_of q)) (given.gives g stands)
        (λ there. is_there (m.base + at + unsigned_abs x) (length m.stack) there ∙ ap Given (sym e)) whole;
  }

module _ {R : Type 0} (Means : R → Heap → Type 0) (m : Kept R) (at : ℕ) (i : Code) where
  pub frame_at : (x u : ℤ) → ReadsSpot Means m (InFrame at i) → Gives Means m i (Ok x) → u ≡ x → m.base + at + unsigned_abs u ≤ length m.stack
  frame_at x u is given e = subst (λ j. m.base + at + unsigned_abs j ≤ length m.stack) (sym e) (frame_room Means m at i x is given)

  pub frame_given : (x u : ℤ) (q : Spot) → Gives Means m i (Ok x) → spot_of q ≡ InStack (m.base + at + unsigned_abs u) → u ≡ x → GivesSpot Means m (InFrame at i) (Ok q)
  frame_given x u q given is e = frame_gives Means m at i x q given (is ∙ ap (λ j. InStack (m.base + at + unsigned_abs j)) e)

pub ruleset frame_rules = (frame_index, frame_stops, frame_room, frame_gives)

-- ---- of the package objects

module _ {R : Type 0} (Means : R → Heap → Type 0) (m : Kept R) (at : ℕ) (i : Code) where
  pub package_index : ReadsSpot Means m (InPackages at i) → Reads Means m i
  package_index is = record { ghosts = is.ghosts; stands = is.stands; whole = first_whole (word (slots m is.ghosts) i) _ is.whole }

  pub package_stops : (s : Stop) → Gives Means m i (Err s) → GivesSpot Means m (InPackages at i) (Err s)
  package_stops s is = record { gives = λ g stands whole. first_stops (word (slots m g) i) _ (stop_of s) (is.gives g stands) whole }

  pub package_room : (x : ℤ) → ReadsSpot Means m (InPackages at i) → Gives Means m i (Ok x) → at + unsigned_abs x ≤ length m.stack
  package_room x is given =
      within (at + unsigned_abs x) (length m.stack)
      (next_whole (word (slots m is.ghosts) i) (λ o. stack_spot (slots m is.ghosts) (at + unsigned_abs o)) x (given.gives is.ghosts is.stands) is.whole)

  pub package_gives : (x : ℤ) (q : Spot) → Gives Means m i (Ok x) → spot_of q ≡ InStack (at + unsigned_abs x) → GivesSpot Means m (InPackages at i) (Ok q)
  package_gives x q given e = record {
    gives = λ g stands whole.
        next_gives (word (slots m g) i) (λ o. stack_spot (slots m g) (at + unsigned_abs o)) x (Given (spot_of q)) (given.gives g stands)
        (λ there. is_there (at + unsigned_abs x) (length m.stack) there ∙ ap Given (sym e)) whole;
  }

module _ {R : Type 0} (Means : R → Heap → Type 0) (m : Kept R) (at : ℕ) (i : Code) where
  pub package_at : (x u : ℤ) → ReadsSpot Means m (InPackages at i) → Gives Means m i (Ok x) → u ≡ x → at + unsigned_abs u ≤ length m.stack
  package_at x u is given e = subst (λ j. at + unsigned_abs j ≤ length m.stack) (sym e) (package_room Means m at i x is given)

  pub package_given : (x u : ℤ) (q : Spot) → Gives Means m i (Ok x) → spot_of q ≡ InStack (at + unsigned_abs u) → u ≡ x → GivesSpot Means m (InPackages at i) (Ok q)
  package_given x u q given is e = package_gives Means m at i x q given (is ∙ ap (λ j. InStack (at + unsigned_abs j)) e)

pub ruleset package_rules = (package_index, package_stops, package_room, package_gives)

-- ---- behind an access value, without an index

module _ {R : Type 0} (Means : R → Heap → Type 0) (m : Kept R) (p : Code) (at : ℕ) where
  abbrev cell : Slots → ℤ → Got flat.Spot
  cell s w = cell_spot s at (unsigned_abs w)

  plain_whole : (s : Slots) → is_broken (spot s (Behind p at no_index)) ≡ false → is_broken (and_then (word s p) (cell s)) ≡ false
  plain_whole s is = subst (λ (x : Got flat.Spot). is_broken x ≡ false) (behind_plain s p at) is

  pub behind_pointer : ReadsSpot Means m (Behind p at no_index) → Reads Means m p
  behind_pointer is = record { ghosts = is.ghosts; stands = is.stands; whole = first_whole (word (slots m is.ghosts) p) _ (plain_whole (slots m is.ghosts) is.whole) }

  pub behind_stops : (s : Stop) → Gives Means m p (Err s) → GivesSpot Means m (Behind p at no_index) (Err s)
  behind_stops s is = record {
    gives = λ g stands whole.
        behind_plain (slots m g) p at ∙ first_stops (word (slots m g) p) (cell (slots m g)) (stop_of s) (is.gives g stands) (plain_whole (slots m g) whole);
  }

  pub behind_there : (w : ℤ) → ReadsSpot Means m (Behind p at no_index) → Gives Means m p (Ok w) → ReadsCell Means m at w
  behind_there w is given = record {
    ghosts = is.ghosts;
    stands = is.stands;
    whole = next_whole (word (slots m is.ghosts) p) (cell (slots m is.ghosts)) w (given.gives is.ghosts is.stands) (plain_whole (slots m is.ghosts) is.whole);
  }

  pub behind_gives : (w : ℤ) (r : Result Spot Stop) → Gives Means m p (Ok w) → GivesCell Means m at w r → GivesSpot Means m (Behind p at no_index) r
  behind_gives w r given there = record {
    gives = λ g stands whole.
        behind_plain (slots m g) p at
        ∙ next_gives (word (slots m g) p) (cell (slots m g)) w (shown_spot r) (given.gives g stands) (there.gives g stands) (plain_whole (slots m g) whole);
  }

module _ {R : Type 0} (Means : R → Heap → Type 0) (m : Kept R) (p : Code) (at : ℕ) where
  pub behind_as : (n : ℕ) (w u : ℤ) → ReadsSpot Means m (Behind p at no_index) → Gives Means m p (Ok w) → n ≡ at → u ≡ w → ReadsCell Means m n u
  behind_as n w u is given e d =
      subst (λ i. ReadsCell Means m i u) (sym e) (subst (λ i. ReadsCell Means m at i) (sym d) (behind_there Means m p at w is given))

pub ruleset behind_rules = (behind_pointer, behind_stops, behind_there, behind_gives)

-- ---- at an index

module _ {R : Type 0} (Means : R → Heap → Type 0) (m : Kept R) (p : Code) (at : ℕ) (i : Code) where
  abbrev here : Slots → ℤ → ℤ → Got flat.Spot
  here s o w = cell_spot s (at + unsigned_abs o) (unsigned_abs w)

  abbrev indexed : Slots → ℤ → Got flat.Spot
  indexed s o = and_then (word s p) (here s o)

  abbrev named : Slots → ℤ → Got flat.Spot
  named s x = and_then (word s i) (indexed s)

  pub behind_names : ReadsSpot Means m (Behind p at i) → ReadsNames Means m p
  behind_names is = record { ghosts = is.ghosts; stands = is.stands; whole = first_whole (indexes (slots m is.ghosts) p) (named (slots m is.ghosts)) is.whole }

  pub behind_names_stop : (s : Stop) → GivesNames Means m p (Err s) → GivesSpot Means m (Behind p at i) (Err s)
  behind_names_stop s is = record { gives = λ g stands whole. first_stops (indexes (slots m g) p) (named (slots m g)) (stop_of s) (is.gives g stands) whole }

  pub behind_index : (x : ℤ) → ReadsSpot Means m (Behind p at i) → GivesNames Means m p (Ok x) → Reads Means m i
  behind_index x is names = record {
    ghosts = is.ghosts;
    stands = is.stands;
    whole = first_whole (word (slots m is.ghosts) i) (indexed (slots m is.ghosts))
        (next_whole (indexes (slots m is.ghosts) p) (named (slots m is.ghosts)) x (names.gives is.ghosts is.stands) is.whole);
  }

  pub behind_index_stops : (x : ℤ) (s : Stop) → GivesNames Means m p (Ok x) → Gives Means m i (Err s) → GivesSpot Means m (Behind p at i) (Err s)
  behind_index_stops x s names is = record {
    gives = λ g stands whole.
        next_gives (indexes (slots m g) p) (named (slots m g)) x (Stops (stop_of s)) (names.gives g stands)
        (first_stops (word (slots m g) i) (indexed (slots m g)) (stop_of s) (is.gives g stands)) whole;
  }

  pub behind_at_pointer : (x o : ℤ) → ReadsSpot Means m (Behind p at i) → GivesNames Means m p (Ok x) → Gives Means m i (Ok o) → Reads Means m p
  behind_at_pointer x o is names index = record {
    ghosts = is.ghosts;
    stands = is.stands;
    whole = first_whole (word (slots m is.ghosts) p) (here (slots m is.ghosts) o)
        (next_whole (word (slots m is.ghosts) i) (indexed (slots m is.ghosts)) o (index.gives is.ghosts is.stands)
        (next_whole (indexes (slots m is.ghosts) p) (named (slots m is.ghosts)) x (names.gives is.ghosts is.stands) is.whole));
  }

  pub behind_at_stops : (x o : ℤ) (s : Stop) → GivesNames Means m p (Ok x) → Gives Means m i (Ok o) → Gives Means m p (Err s) → GivesSpot Means m (Behind p at i) (Err s)
  behind_at_stops x o s names index is = record {
    gives = λ g stands whole.
        next_gives (indexes (slots m g) p) (named (slots m g)) x (Stops (stop_of s)) (names.gives g stands)
        (next_gives (word (slots m g) i) (indexed (slots m g)) o (Stops (stop_of s)) (index.gives g stands)
        (first_stops (word (slots m g) p) (here (slots m g) o) (stop_of s) (is.gives g stands))) whole;
  }

  pub behind_at_there : (x o w : ℤ) → ReadsSpot Means m (Behind p at i) → GivesNames Means m p (Ok x) → Gives Means m i (Ok o) → Gives Means m p (Ok w)
      → ReadsCell Means m (at + unsigned_abs o) w
  behind_at_there x o w is names index given = record {
    ghosts = is.ghosts;
    stands = is.stands;
    whole = next_whole (word (slots m is.ghosts) p) (here (slots m is.ghosts) o) w (given.gives is.ghosts is.stands)
        (next_whole (word (slots m is.ghosts) i) (indexed (slots m is.ghosts)) o (index.gives is.ghosts is.stands)
        (next_whole (indexes (slots m is.ghosts) p) (named (slots m is.ghosts)) x (names.gives is.ghosts is.stands) is.whole));
  }

  pub behind_at_gives : (x o w : ℤ) (r : Result Spot Stop) → GivesNames Means m p (Ok x) → Gives Means m i (Ok o) → Gives Means m p (Ok w)
      → GivesCell Means m (at + unsigned_abs o) w r → GivesSpot Means m (Behind p at i) r
  behind_at_gives x o w r names index given there = record {
    gives = λ g stands whole.
        next_gives (indexes (slots m g) p) (named (slots m g)) x (shown_spot r) (names.gives g stands)
        (next_gives (word (slots m g) i) (indexed (slots m g)) o (shown_spot r) (index.gives g stands)
        (next_gives (word (slots m g) p) (here (slots m g) o) w (shown_spot r) (given.gives g stands) (there.gives g stands))) whole;
  }

module _ {R : Type 0} (Means : R → Heap → Type 0) (m : Kept R) (p : Code) (at : ℕ) (i : Code) where
  pub behind_at_as : (n : ℕ) (x o w u : ℤ) → ReadsSpot Means m (Behind p at i) → GivesNames Means m p (Ok x) → Gives Means m i (Ok o)
      → Gives Means m p (Ok w) → n ≡ at + unsigned_abs o → u ≡ w → ReadsCell Means m n u
  behind_at_as n x o w u is names index given e d =
      subst (λ j. ReadsCell Means m j u) (sym e)
      (subst (λ j. ReadsCell Means m (at + unsigned_abs o) j) (sym d) (behind_at_there Means m p at i x o w is names index given))

pub ruleset behind_at_rules = (behind_names, behind_names_stop, behind_index, behind_index_stops, behind_at_pointer, behind_at_stops, behind_at_there, behind_at_gives)
