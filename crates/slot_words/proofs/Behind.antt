-- Words behind an access value.
use Rattle.std.proofs.Common.{◌≡◌, sym, ◌∙◌, subst, ℕ, ◌+◌, false, ℤ, unsigned_abs, Result, Ok, Err}
use Rattle.run_values.specs.declared.value.Kind.{Kind}
use Rattle.slot_heap.specs.Heaps.{Heap}
use Rattle.code_rows.specs.declared.stop.Stop.{Stop}
use Rattle.code_rows.specs.Stops.{stop_of, shown}
use Rattle.run_codes.specs.Codes.{Code, Via}
use Rattle.run_codes.specs.Lowered.{no_index}
use Rattle.run_codes.specs.Flat.{Got, Given, Stops, and_then, is_broken}
use Rattle.handled_runs.specs.Slots.{Slots, word, indexes, behind}
use Rattle.slot_memory.specs.Memory.{Kept, slots}
use Rattle.slot_words.specs.Reading.{Reads, Gives, ReadsNames, GivesNames, ReadsBehind, GivesBehind}
use Rattle.slot_words.proofs.Wholes.{first_whole, next_whole, first_stops, next_gives}
use Rattle.slot_words.proofs.Names.{via_plain}

-- ---- without an index

module _ {R : Type 0} (Means : R → Heap → Type 0) (m : Kept R) (p : Code) (at : ℕ) (k : Kind) where
  plain_whole : (s : Slots) → is_broken (word s (Via p at no_index k)) ≡ false → is_broken (and_then (word s p) (behind s at k)) ≡ false
  plain_whole s is = subst (λ (x : Got ℤ). is_broken x ≡ false) (via_plain s p at k) is

  pub via_pointer : Reads Means m (Via p at no_index k) → Reads Means m p
  via_pointer is = record { ghosts = is.ghosts; stands = is.stands; whole = first_whole (word (slots m is.ghosts) p) _ (plain_whole (slots m is.ghosts) is.whole) }

  pub via_stops : (s : Stop) → Gives Means m p (Err s) → Gives Means m (Via p at no_index k) (Err s)
  via_stops s is = record {
    gives = λ g stands whole.
        via_plain (slots m g) p at k ∙ first_stops (word (slots m g) p) (behind (slots m g) at k) (stop_of s) (is.gives g stands) (plain_whole (slots m g) whole);
  }

  pub via_there : (w : ℤ) → Reads Means m (Via p at no_index k) → Gives Means m p (Ok w) → ReadsBehind Means m at k w
  via_there w is given = record {
    ghosts = is.ghosts;
    stands = is.stands;
    whole = next_whole (word (slots m is.ghosts) p) (behind (slots m is.ghosts) at k) w (given.gives is.ghosts is.stands) (plain_whole (slots m is.ghosts) is.whole);
  }

  pub via_gives : (w : ℤ) (r : Result ℤ Stop) → Gives Means m p (Ok w) → GivesBehind Means m at k w r → Gives Means m (Via p at no_index k) r
  via_gives w r given there = record {
    gives = λ g stands whole.
        via_plain (slots m g) p at k
        ∙ next_gives (word (slots m g) p) (behind (slots m g) at k) w (shown r) (given.gives g stands) (there.gives g stands) (plain_whole (slots m g) whole);
  }

module _ {R : Type 0} (Means : R → Heap → Type 0) (m : Kept R) (p : Code) (at : ℕ) (k : Kind) where
  pub via_as : (n : ℕ) (w u : ℤ) → Reads Means m (Via p at no_index k) → Gives Means m p (Ok w) → n ≡ at → u ≡ w → ReadsBehind Means m n k u
  via_as n w u is given e d =
      subst (λ i. ReadsBehind Means m i k u) (sym e) (subst (λ i. ReadsBehind Means m at k i) (sym d) (via_there Means m p at k w is given))

  pub via_given : (n : ℕ) (w u : ℤ) (r : Result ℤ Stop) → Gives Means m p (Ok w) → GivesBehind Means m n k u r → n ≡ at → u ≡ w → Gives Means m (Via p at no_index k) r
  via_given n w u r given there e d =
      via_gives Means m p at k w r given (subst (λ i. GivesBehind Means m at k i r) d (subst (λ i. GivesBehind Means m i k u r) e there))

pub ruleset via_rules = (via_pointer, via_stops, via_there, via_gives)

-- ---- at an index

module _ {R : Type 0} (Means : R → Heap → Type 0) (m : Kept R) (p : Code) (at : ℕ) (i : Code) (k : Kind) where
  abbrev here : Slots → ℤ → ℤ → Got ℤ
  here s o w = behind s (at + unsigned_abs o) k w

  abbrev named : Slots → ℤ → Got ℤ
  named s x = and_then (word s i) (λ o. and_then (word s p) (here s o))

  abbrev indexed : Slots → ℤ → Got ℤ
  indexed s o = and_then (word s p) (here s o)

  pub via_names : Reads Means m (Via p at i k) → ReadsNames Means m p
  unfolding word
  via_names is = record { ghosts = is.ghosts; stands = is.stands; whole = first_whole (indexes (slots m is.ghosts) p) (named (slots m is.ghosts)) is.whole }

  pub via_names_stop : (s : Stop) → GivesNames Means m p (Err s) → Gives Means m (Via p at i k) (Err s)
  unfolding word
  via_names_stop s is = record { gives = λ g stands whole. first_stops (indexes (slots m g) p) (named (slots m g)) (stop_of s) (is.gives g stands) whole }

  pub via_index : (x : ℤ) → Reads Means m (Via p at i k) → GivesNames Means m p (Ok x) → Reads Means m i
  unfolding word
  via_index x is names = record {
    ghosts = is.ghosts;
    stands = is.stands;
    whole = first_whole (word (slots m is.ghosts) i) (indexed (slots m is.ghosts))
        (next_whole (indexes (slots m is.ghosts) p) (named (slots m is.ghosts)) x (names.gives is.ghosts is.stands) is.whole);
  }

  pub via_index_stops : (x : ℤ) (s : Stop) → GivesNames Means m p (Ok x) → Gives Means m i (Err s) → Gives Means m (Via p at i k) (Err s)
  unfolding word
  via_index_stops x s names is = record {
    gives = λ g stands whole.
        next_gives (indexes (slots m g) p) (named (slots m g)) x (Stops (stop_of s)) (names.gives g stands)
        (first_stops (word (slots m g) i) (indexed (slots m g)) (stop_of s) (is.gives g stands)) whole;
  }

  pub via_at_pointer : (x o : ℤ) → Reads Means m (Via p at i k) → GivesNames Means m p (Ok x) → Gives Means m i (Ok o) → Reads Means m p
  unfolding word
  via_at_pointer x o is names index = record {
    ghosts = is.ghosts;
    stands = is.stands;
    whole = first_whole (word (slots m is.ghosts) p) (here (slots m is.ghosts) o)
        (next_whole (word (slots m is.ghosts) i) (indexed (slots m is.ghosts)) o (index.gives is.ghosts is.stands)
        (next_whole (indexes (slots m is.ghosts) p) (named (slots m is.ghosts)) x (names.gives is.ghosts is.stands) is.whole));
  }

  pub via_at_stops : (x o : ℤ) (s : Stop) → GivesNames Means m p (Ok x) → Gives Means m i (Ok o) → Gives Means m p (Err s) → Gives Means m (Via p at i k) (Err s)
  unfolding word
  via_at_stops x o s names index is = record {
    gives = λ g stands whole.
        next_gives (indexes (slots m g) p) (named (slots m g)) x (Stops (stop_of s)) (names.gives g stands)
        (next_gives (word (slots m g) i) (indexed (slots m g)) o (Stops (stop_of s)) (index.gives g stands)
        (first_stops (word (slots m g) p) (here (slots m g) o) (stop_of s) (is.gives g stands))) whole;
  }

  pub via_at_there : (x o w : ℤ) → Reads Means m (Via p at i k) → GivesNames Means m p (Ok x) → Gives Means m i (Ok o) → Gives Means m p (Ok w)
      → ReadsBehind Means m (at + unsigned_abs o) k w
  unfolding word
  via_at_there x o w is names index given = record {
    ghosts = is.ghosts;
    stands = is.stands;
    whole = next_whole (word (slots m is.ghosts) p) (here (slots m is.ghosts) o) w (given.gives is.ghosts is.stands)
        (next_whole (word (slots m is.ghosts) i) (indexed (slots m is.ghosts)) o (index.gives is.ghosts is.stands)
        (next_whole (indexes (slots m is.ghosts) p) (named (slots m is.ghosts)) x (names.gives is.ghosts is.stands) is.whole));
  }

  pub via_at_gives : (x o w : ℤ) (r : Result ℤ Stop) → GivesNames Means m p (Ok x) → Gives Means m i (Ok o) → Gives Means m p (Ok w)
      → GivesBehind Means m (at + unsigned_abs o) k w r → Gives Means m (Via p at i k) r
  unfolding word
  via_at_gives x o w r names index given there = record {
    gives = λ g stands whole.
        next_gives (indexes (slots m g) p) (named (slots m g)) x (shown r) (names.gives g stands)
        (next_gives (word (slots m g) i) (indexed (slots m g)) o (shown r) (index.gives g stands)
        (next_gives (word (slots m g) p) (here (slots m g) o) w (shown r) (given.gives g stands) (there.gives g stands))) whole;
  }

module _ {R : Type 0} (Means : R → Heap → Type 0) (m : Kept R) (p : Code) (at : ℕ) (i : Code) (k : Kind) where
  pub via_at_as : (n : ℕ) (x o w u : ℤ) → Reads Means m (Via p at i k) → GivesNames Means m p (Ok x) → Gives Means m i (Ok o)
      → Gives Means m p (Ok w) → n ≡ at + unsigned_abs o → u ≡ w → ReadsBehind Means m n k u
  via_at_as n x o w u is names index given e d =
      subst (λ j. ReadsBehind Means m j k u) (sym e)
      (subst (λ j. ReadsBehind Means m (at + unsigned_abs o) k j) (sym d) (via_at_there Means m p at i k x o w is names index given))

  pub via_at_given : (n : ℕ) (x o w u : ℤ) (r : Result ℤ Stop) → GivesNames Means m p (Ok x) → Gives Means m i (Ok o) → Gives Means m p (Ok w)
      → GivesBehind Means m n k u r → n ≡ at + unsigned_abs o → u ≡ w → Gives Means m (Via p at i k) r
  via_at_given n x o w u r names index given there e d =
      via_at_gives Means m p at i k x o w r names index given
      (subst (λ j. GivesBehind Means m (at + unsigned_abs o) k j r) d (subst (λ j. GivesBehind Means m j k u r) e there))

pub ruleset via_at_rules = (via_names, via_names_stop, via_index, via_index_stops, via_at_pointer, via_at_stops, via_at_there, via_at_gives)
