-- What one actual passes.
use Rattle.std.proofs.Common.{◌≡◌, refl, sym, ap, ◌∙◌, subst, ℕ, ◌-◌, ◌≤◌, arith, Bool, true, false, List, [], ◌∷◌, ◌++◌, length, take, drop, ℤ, Result, Ok, Err, if◌then◌else◌}
use Rattle.std.proofs.lemmas.List.{take_at}
use Rattle.spark_base.specs.declared.position.Pos.{Pos}
use Rattle.type_definitions.specs.Types.{Table}
use Rattle.slot_heap.specs.Heaps.{Heap}
use Rattle.code_rows.specs.declared.stop.Stop.{Stop}
use Rattle.code_rows.specs.declared.stop.Stop.TheVariants as stop
use Rattle.code_rows.specs.Stops.{stop_of}
use Rattle.run_codes.specs.Codes.{Code, Place, Fill, Actual, ByValue, From, To, Checked}
use Rattle.run_codes.specs.Flat as flat
use Rattle.run_codes.specs.Flat.{Got, Given, Stops, Broken, and_then, is_broken, constraint, kinds, checked}
use Rattle.run_codes.specs.Points.{Value, FromSpot, ToSpot, fits}
use Rattle.handled_runs.specs.Slots.{Slots, word, spot, held}
use Rattle.handled_runs.specs.Values as values
use Rattle.handled_runs.specs.Values.{Outcome, Fills, reads}
use Rattle.handled_steps.specs.Steps.{Passing, Passes, Stopping, Failing, PassesOne, on_read, from_spot}
use Rattle.slot_memory.specs.declared.spot.Spot.{Spot}
use Rattle.slot_memory.specs.Spots.{spot_of}
use Rattle.slot_memory.specs.Memory.{Kept, slots}
use Rattle.slot_words.specs.Reading.{Reads as ReadsWord, Gives as GivesWord, ReadsSpot, GivesSpot}
use Rattle.slot_values.specs.Fillings.{Fillable, Filled}
use Rattle.slot_calls.specs.declared.actuals.Pass.{Pass}
use Rattle.slot_calls.specs.declared.actuals.Pass.TheVariants as pass
use Rattle.slot_calls.specs.Calls.{passed_of, Passable, PassedOne, Testable, Tests, tested}
use Rattle.slot_calls.proofs.Fitting.{end_is}

error_is : {U : Type 0} (s e : Stop) → ◌≡◌ {A = Result U Stop} (Err s) (Err e) → s ≡ e
error_is s e is = cc

-- the same answer
pub passed_by : {R : Type 0} (Means : R → Heap → Type 0) (before : Kept R) (table : Table) (a : Actual) (r q : Result Pass Stop) (old new : List ℤ) (now : Kept R) → r ≡ q
    → PassedOne Means before table a q old new now → PassedOne Means before table a r old new now
passed_by Means before table a r q old new now same is = subst (λ (x : Result Pass Stop). PassedOne Means before table a x old new now) (sym same) is

all_taken : (zs : List ℤ) → take (length zs) zs ≡ zs
all_taken [] = refl
all_taken (z ∷ zs) = ap (λ us. z ∷ us) (all_taken zs)

-- ---- the words of a value

-- They are those at hand from where it began.
is_value : (old new zs : List ℤ) (first end : ℕ) → new ≡ old ++ zs → first ≡ length old → end ≡ length new → Value zs ≡ passed_of new (pass.Value first end)
is_value old new zs first end e from to =
    ap (λ us. Value us) (sym (ap (λ (n : ℕ). take (n - first) (drop first new)) to ∙ ap (λ (n : ℕ). take (length new - n) (drop n new)) from
    ∙ ap (λ (us : List ℤ). take (length us - length old) (drop (length old) us)) e ∙ end_is old zs))

-- Those that were at hand are still there.
are_kept : (old new zs : List ℤ) → new ≡ old ++ zs → take (length old) new ≡ old
are_kept old new zs e = ap (take (length old)) e ∙ take_at old zs (length old) refl

within_end : (end n : ℕ) → end ≡ n → end ≤ n
within_end end n e = omega (arith, e)

module _ {R : Type 0} (Means : R → Heap → Type 0) (m : Kept R) (table : Table) (v : Fill) where
  value_safe : (s : Slots) → (PassesOne table (ByValue v) s Failing → ⊥) → Fills table v s values.Fails → ⊥
  value_safe s safe fails = safe (values.Fails, fails, refl)

  pub value_filled : Passable Means m table (ByValue v) → Fillable Means m table v
  value_filled is = record { ghosts = is.ghosts; stands = is.stands; whole = value_safe (slots m is.ghosts) is.whole }

  pub value_stops : {U : Type 0} (x : Stop) (old now new : List ℤ) (n : Kept R) → Filled {U = U} Means m table v (Err x) old now n
      → PassedOne Means m table (ByValue v) (Err x) old new n
  value_stops x old now new n is = record {
    passed = λ g stands safe other.
        let ended = is.filled g stands (value_safe (slots m g) safe) other in
        record { after = ended.after; may = (values.Ends (stop_of x) ended.after, ended.may, refl); shows = ended.shows };
  }

  pub value_passes : {U : Type 0} (u : U) (old new : List ℤ) (n : Kept R) (first end : ℕ) → Filled Means m table v (Ok u) old new n → first ≡ length old → end ≡ length new
      → PassedOne Means m table (ByValue v) (Ok (pass.Value first end)) old new n
  value_passes u old new n first end is from to = record {
    passed = λ g stands safe.
        let given = is.filled g stands (value_safe (slots m g) safe) in record {
          after = given.after;
          may = (
            values.Gives given.words given.after,
            given.may,
            ap (λ p. Passes (p ∷ []) given.after) (sym (is_value old new given.words first end given.appended from to)),
          );
          kept = are_kept old new given.words given.appended;
          within = within_end end (length new) to;
          shows = given.shows;
        };
  }

pub ruleset value_rules = (value_filled, value_stops, value_passes)

-- ---- a scalar word

module _ {R : Type 0} (Means : R → Heap → Type 0) (m : Kept R) (table : Table) (c : Code) (low high : ℤ) where
  abbrev got : Slots → Got ℤ
  got s = and_then (word s c) (checked low high)

  abbrev one : Slots → ℤ → Outcome
  one s w = values.Gives (w ∷ []) s

  checked_is : (s : Slots) (o : Outcome) → o ≡ reads s (got s) (one s) → Fills table (Checked c low high) s o
  unfolding Fills
  checked_is s o is = is

  broken_fails : (s : Slots) (w : Got ℤ) → (values.Fails ≡ reads s (and_then w (checked low high)) (one s) → ⊥) → is_broken w ≡ false
  broken_fails s (Given w) safe = refl
  broken_fails s (Stops x) safe = refl
  broken_fails s Broken safe = absurd (safe refl)

  word_safe : (s : Slots) → (PassesOne table (ByValue (Checked c low high)) s Failing → ⊥) → is_broken (word s c) ≡ false
  word_safe s safe = broken_fails s (word s c) (λ fails. safe (values.Fails, checked_is s values.Fails fails, refl))

  pub word_reads : Passable Means m table (ByValue (Checked c low high)) → ReadsWord Means m c
  word_reads is = record { ghosts = is.ghosts; stands = is.stands; whole = word_safe (slots m is.ghosts) is.whole }

  pub word_stops : (x : Stop) (old new : List ℤ) → GivesWord Means m c (Err x) → PassedOne Means m table (ByValue (Checked c low high)) (Err x) old new m
  word_stops x old new is = record {
    passed = λ g stands safe other. record {
      after = slots m g;
      may = (
        values.Ends (stop_of x) (slots m g),
        checked_is (slots m g) _ (sym (ap (λ z. reads (slots m g) (and_then z (checked low high)) (one (slots m g))) (is.gives g stands (word_safe (slots m g) safe)))),
        refl,
      );
      shows = (stands, refl);
    };
  }

  pub word_out : (w : ℤ) (x : Stop) (old new : List ℤ) → GivesWord Means m c (Ok w) → checked low high w ≡ Stops (stop_of x)
      → PassedOne Means m table (ByValue (Checked c low high)) (Err x) old new m
  word_out w x old new is out = record {
    passed = λ g stands safe other. record {
      after = slots m g;
      may = (
        values.Ends (stop_of x) (slots m g),
        checked_is (slots m g) _ (sym (ap (λ z. reads (slots m g) (and_then z (checked low high)) (one (slots m g))) (is.gives g stands (word_safe (slots m g) safe))
            ∙ ap (λ z. reads (slots m g) z (one (slots m g))) out)),
        refl,
      );
      shows = (stands, refl);
    };
  }

  -- nothing is told where there is too little memory
  pub word_memory : (x : Stop) (old new : List ℤ) → x ≡ stop.Memory → PassedOne Means m table (ByValue (Checked c low high)) (Err x) old new m
  word_memory x old new is = record { passed = λ g stands safe other. absurd (other is) }

  pub word_passes : (w z : ℤ) (old new : List ℤ) (first end : ℕ) → GivesWord Means m c (Ok w) → checked low high w ≡ Given z → new ≡ old ++ z ∷ []
      → first ≡ length old → end ≡ length new → PassedOne Means m table (ByValue (Checked c low high)) (Ok (pass.Value first end)) old new m
  word_passes w z old new first end is within pushed from to = record {
    passed = λ g stands safe. record {
      after = slots m g;
      may = (
        values.Gives (z ∷ []) (slots m g),
        checked_is (slots m g) _ (sym (ap (λ y. reads (slots m g) (and_then y (checked low high)) (one (slots m g))) (is.gives g stands (word_safe (slots m g) safe))
            ∙ ap (λ y. reads (slots m g) y (one (slots m g))) within)),
        ap (λ p. Passes (p ∷ []) (slots m g)) (sym (is_value old new (z ∷ []) first end pushed from to)),
      );
      kept = are_kept old new (z ∷ []) pushed;
      within = within_end end (length new) to;
      shows = (stands, refl);
    };
  }

pub ruleset word_rules = (word_reads, word_stops, word_out, word_memory, word_passes)

-- ---- places

read_safe : {A : Type 0} (s : Slots) (got : Got A) (f : A → Passing) → (Failing ≡ on_read s got f → ⊥) → is_broken got ≡ false
read_safe s (Given a) f safe = refl
read_safe s (Stops x) f safe = refl
read_safe s Broken f safe = absurd (safe refl)

module _ {R : Type 0} (Means : R → Heap → Type 0) (m : Kept R) (table : Table) (p : Place) (of formal : ℕ) where
  from_safe : (s : Slots) → (PassesOne table (From p of formal) s Failing → ⊥) → is_broken (spot s p) ≡ false
  from_safe s safe = read_safe s (spot s p) (from_spot table of formal s) safe

  abbrev fitting : Slots → flat.Spot → List ℤ → Passing
  fitting s q zs = if fits table formal zs then Passes (FromSpot q of ∷ []) s else Stopping constraint s

  held_safe : (s : Slots) (q : flat.Spot) → spot s p ≡ Given q → (PassesOne table (From p of formal) s Failing → ⊥) → is_broken (held s q (kinds table of)) ≡ false
  held_safe s q e safe =
      read_safe s (held s q (kinds table of)) (fitting s q) (λ fails. safe (fails ∙ ap (λ z. on_read s z (from_spot table of formal s)) (sym e)))

  pub from_reads : Passable Means m table (From p of formal) → ReadsSpot Means m p
  from_reads is = record { ghosts = is.ghosts; stands = is.stands; whole = from_safe (slots m is.ghosts) is.whole }

  pub from_stops : (x : Stop) (old new : List ℤ) → GivesSpot Means m p (Err x) → PassedOne Means m table (From p of formal) (Err x) old new m
  from_stops x old new is = record {
    passed = λ g stands safe other. record {
      after = slots m g;
      may = sym (ap (λ z. on_read (slots m g) z (from_spot table of formal (slots m g))) (is.gives g stands (from_safe (slots m g) safe)));
      shows = (stands, refl);
    };
  }

  pub from_test : (q : Spot) → Passable Means m table (From p of formal) → GivesSpot Means m p (Ok q) → Testable Means m (spot_of q) (kinds table of)
  from_test q is at = record {
    ghosts = is.ghosts;
    stands = is.stands;
    whole = held_safe (slots m is.ghosts) (spot_of q) (at.gives is.ghosts is.stands (from_safe (slots m is.ghosts) is.whole)) is.whole;
  }

  -- where what is held doesn't fit
  unfit : (s : Slots) (q : flat.Spot) (x : flat.Stop) (got : Got (List ℤ)) → tested table formal got ≡ Stops x → on_read s got (fitting s q) ≡ Stopping x s
  unfit s q x (Given zs) e = by (fits table formal zs) e
    where
      by : (b : Bool) → (if b then Given zs else Stops constraint) ≡ Stops x → (if b then Passes (FromSpot q of ∷ []) s else Stopping constraint s) ≡ Stopping x s
      by true is = cc
      by false is = ap (λ y. Stopping y s) (same constraint x is)
        where
          same : (a b : flat.Stop) → ◌≡◌ {A = Got (List ℤ)} (Stops a) (Stops b) → a ≡ b
          same a b is = cc
  unfit s q x (Stops y) e = ap (λ z. Stopping z s) (same y x e)
    where
      same : (a b : flat.Stop) → ◌≡◌ {A = Got (List ℤ)} (Stops a) (Stops b) → a ≡ b
      same a b is = cc
  unfit s q x Broken e = cc

  pub from_unfit : {U : Type 0} (q : Spot) (x : Stop) (old new : List ℤ) → GivesSpot Means m p (Ok q)
      → Tests {U = U} Means m table formal (spot_of q) (kinds table of) (Err x) → PassedOne Means m table (From p of formal) (Err x) old new m
  from_unfit q x old new at is = record {
    passed = λ g stands safe other.
        let e = at.gives g stands (from_safe (slots m g) safe) in record {
          after = slots m g;
          may = sym (ap (λ z. on_read (slots m g) z (from_spot table of formal (slots m g))) e
              ∙ unfit (slots m g) (spot_of q) (stop_of x) (held (slots m g) (spot_of q) (kinds table of)) (is.tests g stands (held_safe (slots m g) (spot_of q) e safe) other));
          shows = (stands, refl);
        };
  }

  pub from_passes : {U : Type 0} (u : U) (q : Spot) (old new : List ℤ) → GivesSpot Means m p (Ok q) → Tests Means m table formal (spot_of q) (kinds table of) (Ok u)
      → new ≡ old → PassedOne Means m table (From p of formal) (Ok (pass.From q of)) old new m
  from_passes u q old new at is same = record {
    passed = λ g stands safe.
        let e = at.gives g stands (from_safe (slots m g) safe) in
        let found = is.tests g stands (held_safe (slots m g) (spot_of q) e safe) in record {
          after = slots m g;
          may = sym (ap (λ z. on_read (slots m g) z (from_spot table of formal (slots m g))) e
              ∙ ap (λ z. on_read (slots m g) z (fitting (slots m g) (spot_of q))) found.1
              ∙ ap (λ (b : Bool). if b then Passes (FromSpot (spot_of q) of ∷ []) (slots m g) else Stopping constraint (slots m g)) found.2);
          kept = ap (take (length old)) same ∙ all_taken old;
          within = omega arith;
          shows = (stands, refl);
        };
  }

pub ruleset from_rules = (from_reads, from_stops, from_test, from_unfit, from_passes)

module _ {R : Type 0} (Means : R → Heap → Type 0) (m : Kept R) (table : Table) (p : Place) (of : ℕ) (at : Pos) where
  abbrev out : Slots → flat.Spot → Passing
  out s q = Passes (ToSpot q of at ∷ []) s

  pub to_reads : Passable Means m table (To p of at) → ReadsSpot Means m p
  to_reads is = record { ghosts = is.ghosts; stands = is.stands; whole = read_safe (slots m is.ghosts) (spot (slots m is.ghosts) p) (out (slots m is.ghosts)) is.whole }

  pub to_stops : (x : Stop) (old new : List ℤ) → GivesSpot Means m p (Err x) → PassedOne Means m table (To p of at) (Err x) old new m
  to_stops x old new is = record {
    passed = λ g stands safe other. record {
      after = slots m g;
      may = sym (ap (λ z. on_read (slots m g) z (out (slots m g))) (is.gives g stands (read_safe (slots m g) (spot (slots m g) p) (out (slots m g)) safe)));
      shows = (stands, refl);
    };
  }

  pub to_passes : (q : Spot) (hand : List ℤ) → GivesSpot Means m p (Ok q) → PassedOne Means m table (To p of at) (Ok (pass.To q of at)) hand hand m
  to_passes q hand is = record {
    passed = λ g stands safe. record {
      after = slots m g;
      may = sym (ap (λ z. on_read (slots m g) z (out (slots m g))) (is.gives g stands (read_safe (slots m g) (spot (slots m g) p) (out (slots m g)) safe)));
      kept = all_taken hand;
      within = omega arith;
      shows = (stands, refl);
    };
  }

pub ruleset to_rules = (to_reads, to_stops, to_passes)
