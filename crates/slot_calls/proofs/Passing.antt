-- Actuals that are passed one after the other, as the words at hand grow.
use Rattle.std.proofs.Common.{◌≡◌, ℕ, zero, suc, ◌+◌, ◌-◌, ◌≤◌, ◌<◌, Bool, List, [], ◌∷◌, ◌++◌, map, length, take, drop, get_or, refl, sym, ap, subst, ◌∙◌, append_assoc, append-nil, arith, IsTrue, ℤ, Ok, Err}
use Rattle.std.specs.List.{list_all}
use Rattle.std.proofs.Math.Seq.{drop-cons}
use Rattle.std.proofs.lemmas.List.{map-append, drop_all}
use Rattle.type_definitions.specs.Types.{Table}
use Rattle.slot_heap.specs.Heaps.{Heap}
use Rattle.run_codes.specs.Codes.{Actual}
use Rattle.run_codes.specs.Points.{Passed, Value}
use Rattle.code_rows.specs.declared.point.Actual.{Actual as ActualRow}
use Rattle.code_rows.specs.declared.rows.Rows.{Rows}
use Rattle.code_rows.specs.declared.stop.Stop.{Stop}
use Rattle.code_rows.specs.declared.stop.Stop.TheVariants as stop
use Rattle.code_rows.specs.Stops.{stop_of}
use Rattle.code_rows.specs.Points.{actual_of, is_actual_there}
use Rattle.code_rows.proofs.Grown.{and_first, and_second}
use Rattle.handled_runs.specs.Slots.{Slots}
use Rattle.handled_steps.specs.Steps.{Passing, Passes, Stopping, Failing, PassesOne, PassesAll, with_first}
use Rattle.slot_memory.specs.Memory.{Kept, Ghosts, Stands, Shows, slots, ghosts_of}
use Rattle.slot_calls.specs.declared.actuals.Pass.{Pass}
use Rattle.slot_calls.specs.declared.actuals.Pass.TheVariants as pass
use Rattle.slot_calls.specs.Calls.{passed_of, IsWithin, AreWithin, Passable, PassedOne, PassableAll, PassedAll}

-- ---- lists

pub drop_one : {A : Type 0} (xs : List A) (i : ℕ) (d : A) → i < length xs → drop i xs ≡ get_or xs i d ∷ drop (i + 1) xs
drop_one xs i d lt = drop-cons xs i d lt ∙ ap (λ k. get_or xs i d ∷ drop k xs) (next i)
  where
    next : (i : ℕ) → suc i ≡ i + 1
    next i = omega arith

take_of_take : {A : Type 0} (m n : ℕ) → m ≤ n → (xs : List A) → take m (take n xs) ≡ take m xs
take_of_take zero n le xs = refl
take_of_take (suc m) zero le xs = absurd (omega (arith, le))
take_of_take (suc m) (suc n) le [] = refl
take_of_take (suc m) (suc n) le (x ∷ xs) = ap (λ l. x ∷ l) (take_of_take m n (omega (arith, le)) xs)

-- Some of the first ones stand there in all.
some_of_first : {A : Type 0} (k f n : ℕ) → k + f ≤ n → (xs : List A) → take k (drop f (take n xs)) ≡ take k (drop f xs)
some_of_first k zero n le xs = take_of_take k n (omega (arith, le)) xs
some_of_first k (suc f) zero le xs = absurd (omega (arith, le))
some_of_first k (suc f) (suc n) le [] = refl
some_of_first k (suc f) (suc n) le (x ∷ xs) = some_of_first k f n (omega (arith, le)) xs

range_of_first : {A : Type 0} (k first end n : ℕ) → k ≡ end - first → end ≤ n → (xs : List A) → take k (drop first (take n xs)) ≡ take k (drop first xs)
range_of_first zero first end n is le xs = refl
range_of_first (suc k) first end n is le xs = some_of_first (suc k) first n (omega (arith, is, le)) xs

taken_length : {A : Type 0} (n : ℕ) (xs : List A) → length (take n xs) ≤ length xs
taken_length zero xs = omega arith
taken_length (suc n) [] = omega arith
taken_length (suc n) (x ∷ xs) = let h = taken_length n xs in omega (arith, h)

-- ---- words at hand

pub grew : (old new : List ℤ) → take (length old) new ≡ old → length old ≤ length new
grew old new kept = let h = taken_length (length old) new in subst (λ n. n ≤ length new) (ap length kept) h

is_within_more : (m n : ℕ) → m ≤ n → (p : Pass) → IsWithin m p → IsWithin n p
is_within_more m n le (pass.Value first end) is = omega (arith, le, is)
is_within_more m n le (pass.From s of) is = omega arith
is_within_more m n le (pass.To s of pos) is = omega arith

are_within_more : (m n : ℕ) → m ≤ n → (ps : List Pass) → AreWithin m ps → AreWithin n ps
are_within_more m n le [] are = tt
are_within_more m n le (p ∷ ps) are = (is_within_more m n le p are.0, are_within_more m n le ps are.1)

within_both : (n : ℕ) (ps qs : List Pass) → AreWithin n ps → AreWithin n qs → AreWithin n (ps ++ qs)
within_both n [] qs a b = b
within_both n (p ∷ ps) qs a b = (a.0, within_both n ps qs a.1 b)

-- What was passed is the same where words came after those at hand.
one_kept : (old new : List ℤ) → take (length old) new ≡ old → (p : Pass) → IsWithin (length old) p → passed_of new p ≡ passed_of old p
one_kept old new kept (pass.Value first end) is =
    ap (λ zs. Value zs)
    (sym (range_of_first (end - first) first end (length old) refl is new) ∙ ap (λ (zs : List ℤ). take (end - first) (drop first zs)) kept)
one_kept old new kept (pass.From s of) is = refl
one_kept old new kept (pass.To s of pos) is = refl

pub all_kept : (old new : List ℤ) → take (length old) new ≡ old → (ps : List Pass) → AreWithin (length old) ps → map (passed_of new) ps ≡ map (passed_of old) ps
all_kept old new kept [] are = refl
all_kept old new kept (p ∷ ps) are =
    ap (λ x. x ∷ map (passed_of new) ps) (one_kept old new kept p are.0) ∙ ap (λ xs. passed_of old p ∷ xs) (all_kept old new kept ps are.1)

-- ---- actuals one after the other

with_none : (p : Passing) → with_first [] p ≡ p
with_none (Passes ps s) = refl
with_none (Stopping x s) = refl
with_none Failing = refl

with_both : (ps qs : List Passed) (p : Passing) → with_first ps (with_first qs p) ≡ with_first (ps ++ qs) p
with_both ps qs (Passes rest s) = ap (λ l. Passes l s) (sym (append_assoc ps qs rest))
with_both ps qs (Stopping x s) = refl
with_both ps qs Failing = refl

-- What is passed of those that are left comes after what was passed.
pub record Follows {R : Type 0} (Means : R → Heap → Type 0) (m : Kept R) (table : Table) (all : List Actual) (ps : List Passed) (rest : List Actual) (n : Kept R)
    : Type 0 where
  pub follows : (g : Ghosts) → Stands Means m g → (PassesAll table all (slots m g) Failing → ⊥)
      → (t : Slots) × Shows Means n t × ((o : Passing) → PassesAll table rest t o → PassesAll table all (slots m g) (with_first ps o))

module _ {R : Type 0} (Means : R → Heap → Type 0) (m : Kept R) (table : Table) (all : List Actual) where
  pub follows_first : Follows Means m table all [] all m
  follows_first = record { follows = λ g stands safe. (slots m g, (stands, refl), λ o may. subst (PassesAll table all (slots m g)) (sym (with_none o)) may) }

  pub follows_done : {U : Type 0} (u : U) (ps : List Passed) (n : Kept R) → Follows Means m table all ps [] n → PassedAll Means m table all (Ok u) ps n
  follows_done u ps n is = record {
    passed = λ g stands safe.
        let (t, shows, on) = is.follows g stands safe in
        record { after = t; may = subst (λ l. PassesAll table all (slots m g) (Passes l t)) (append-nil ps) (on (Passes [] t) refl); shows = shows };
  }

-- one comes first
module _ {R : Type 0} (Means : R → Heap → Type 0) (n : Kept R) (table : Table) (a : Actual) (rest : List Actual) where
  one_safe : (s : Slots) → (PassesAll table (a ∷ rest) s Failing → ⊥) → PassesOne table a s Failing → ⊥
  one_safe s safe fails = safe (Failing, fails, refl)

  pub one_passable : PassableAll Means n table (a ∷ rest) → Passable Means n table a
  one_passable is = record { ghosts = is.ghosts; stands = is.stands; whole = one_safe (slots n is.ghosts) is.whole }

  rest_is : (s t : Slots) (ps : List Passed) (o : Passing) → PassesOne table a s (Passes ps t) → PassesAll table rest t o → PassesAll table (a ∷ rest) s (with_first ps o)
  rest_is s t ps o first may = (Passes ps t, first, (o, may, refl))

  pub rest_passable : (p : Pass) (old new : List ℤ) (k : Kept R) → PassableAll Means n table (a ∷ rest) → PassedOne Means n table a (Ok p) old new k → PassableAll Means k table rest
  rest_passable p old new k is one =
      let passed = one.passed is.ghosts is.stands (one_safe (slots n is.ghosts) is.whole) in record {
        ghosts = ghosts_of passed.after;
        stands = passed.shows.0;
        whole = λ fails. is.whole (rest_is (slots n is.ghosts) passed.after (passed_of new p ∷ []) Failing passed.may (subst (λ t. PassesAll table rest t Failing) passed.shows.1 fails));
      }

  module _ (m : Kept R) (all : List Actual) (ps : List Passed) (is : Follows Means m table all ps (a ∷ rest) n) where
    after_safe : (g : Ghosts) (stands : Stands Means m g) (safe : PassesAll table all (slots m g) Failing → ⊥)
        → PassesOne table a (slots n (ghosts_of (is.follows g stands safe).0)) Failing → ⊥
    after_safe g stands safe fails =
        let on = is.follows g stands safe in
        safe (on.2 Failing (subst (λ t. PassesAll table (a ∷ rest) t Failing) on.1.1 (Failing, fails, refl)))

    pub follows_next : (p : Pass) (old new : List ℤ) (k : Kept R) → PassedOne Means n table a (Ok p) old new k → Follows Means m table all (ps ++ passed_of new p ∷ []) rest k
    follows_next p old new k one = record {
      follows = λ g stands safe.
          let on = is.follows g stands safe in
          let passed = one.passed (ghosts_of on.0) on.1.0 (after_safe g stands safe) in (
            passed.after,
            passed.shows,
            λ o may. subst (PassesAll table all (slots m g)) (with_both ps (passed_of new p ∷ []) o)
                (on.2 (with_first (passed_of new p ∷ []) o) (subst (λ t. PassesAll table (a ∷ rest) t (with_first (passed_of new p ∷ []) o)) on.1.1
                (rest_is (slots n (ghosts_of on.0)) passed.after (passed_of new p ∷ []) o passed.may may))),
          );
    }

    pub follows_stops : {U : Type 0} (x : Stop) (old new : List ℤ) (qs : List Passed) (k : Kept R) → PassedOne Means n table a (Err x) old new k
        → PassedAll {U = U} Means m table all (Err x) qs k
    follows_stops x old new qs k one = record {
      passed = λ g stands safe other.
          let on = is.follows g stands safe in
          let ended = one.passed (ghosts_of on.0) on.1.0 (after_safe g stands safe) other in record {
            after = ended.after;
            may = on.2 (Stopping (stop_of x) ended.after) (subst (λ t. PassesAll table (a ∷ rest) t (Stopping (stop_of x) ended.after)) on.1.1 (Stopping (stop_of x) ended.after, ended.may, refl));
            shows = ended.shows;
          };
    }

pub all_at : {A : Type 0} (p : A → Bool) (xs : List A) (i : ℕ) (d : A) → IsTrue (list_all p xs) → i < length xs → IsTrue (p (get_or xs i d))
all_at p [] i d all lt = absurd (omega (arith, lt))
all_at p (x ∷ xs) zero d all lt = and_first (p x) (list_all p xs) all
all_at p (x ∷ xs) (suc i) d all lt = all_at p xs i d (and_second (p x) (list_all p xs) all) (omega (arith, lt))

-- The same of rows, of which the first ones were passed.
kept_at : {A : Type 0} (xs : List A) (i : ℕ) (d : A) → i < length xs → get_or xs i (get_or xs i d) ≡ get_or xs i d
kept_at [] i d lt = absurd (omega (arith, lt))
kept_at (x ∷ xs) zero d lt = refl
kept_at (x ∷ xs) (suc i) d lt = kept_at xs i d (omega (arith, lt))

module _ {R : Type 0} (Means : R → Heap → Type 0) (table : Table) (rows : Rows) (xs : List ActualRow) (i : ℕ) (d : ActualRow) (lt : i < length xs) where
  abbrev rest : List Actual
  rest = map (actual_of rows) (drop (i + 1) xs)

  left_is : map (actual_of rows) (drop i xs) ≡ actual_of rows (get_or xs i d) ∷ rest
  left_is = ap (map (actual_of rows)) (drop_one xs i d lt)

  pub row_there : IsTrue (list_all (is_actual_there rows) xs) → IsTrue (is_actual_there rows (get_or xs i d))
  row_there there = all_at (is_actual_there rows) xs i d there lt

  pub row_passable : (n : Kept R) → PassableAll Means n table (map (actual_of rows) (drop i xs)) → Passable Means n table (actual_of rows (get_or xs i d))
  row_passable n is = one_passable Means n table (actual_of rows (get_or xs i d)) rest (subst (PassableAll Means n table) left_is is)

  pub rows_passable : (n k : Kept R) (p : Pass) (old new : List ℤ) → PassableAll Means n table (map (actual_of rows) (drop i xs))
      → PassedOne Means n table (actual_of rows (get_or xs i d)) (Ok p) old new k → PassableAll Means k table (map (actual_of rows) (drop (i + 1) xs))
  rows_passable n k p old new is one = rest_passable Means n table (actual_of rows (get_or xs i d)) rest p old new k (subst (PassableAll Means n table) left_is is) one

  module _ (m n : Kept R) (all : List Actual) (ps : List Pass) (old : List ℤ) (is : Follows Means m table all (map (passed_of old) ps) (map (actual_of rows) (drop i xs)) n) where
    here : Follows Means m table all (map (passed_of old) ps) (actual_of rows (get_or xs i d) ∷ rest) n
    here = subst (λ l. Follows Means m table all (map (passed_of old) ps) l n) left_is is

    pub rows_stop : {U : Type 0} (x : Stop) (new : List ℤ) (qs : List Passed) (k : Kept R) → PassedOne Means n table (actual_of rows (get_or xs i d)) (Err x) old new k
        → PassedAll {U = U} Means m table all (Err x) qs k
    rows_stop x new qs k one = follows_stops Means n table (actual_of rows (get_or xs i d)) rest m all (map (passed_of old) ps) here x old new qs k one

    pub rows_next : (p : Pass) (new : List ℤ) (k : Kept R) → PassableAll Means n table (map (actual_of rows) (drop i xs)) → AreWithin (length old) ps
        → PassedOne Means n table (actual_of rows (get_or xs i d)) (Ok p) old new k
        → Follows Means m table all (map (passed_of new) (ps ++ p ∷ [])) (map (actual_of rows) (drop (i + 1) xs)) k × AreWithin (length new) (ps ++ p ∷ [])
    rows_next p new k able are one =
        let row = row_passable n able in
        let passed = one.passed row.ghosts row.stands row.whole in (
          subst (λ l. Follows Means m table all l rest k)
              (ap (λ l. l ++ passed_of new p ∷ []) (sym (all_kept old new passed.kept ps are)) ∙ sym (map-append (passed_of new) ps (p ∷ [])))
              (follows_next Means n table (actual_of rows (get_or xs i d)) rest m all (map (passed_of old) ps) here p old new k one),
          within_both (length new) ps (p ∷ []) (are_within_more (length old) (length new) (grew old new passed.kept) ps are) (passed.within, tt),
        )

-- None is left.
pub rows_done : {R U : Type 0} (Means : R → Heap → Type 0) (table : Table) (rows : Rows) (xs : List ActualRow) (i : ℕ) (u : U) (m n : Kept R) (all : List Actual) (ps : List Passed)
    → length xs ≤ i → Follows Means m table all ps (map (actual_of rows) (drop i xs)) n → PassedAll Means m table all (Ok u) ps n
rows_done Means table rows xs i u m n all ps le is =
    follows_done Means m table all u ps n (subst (λ l. Follows Means m table all ps l n) (ap (map (actual_of rows)) (drop_all i xs le)) is)

pub memory_all : {R U : Type 0} (Means : R → Heap → Type 0) (table : Table) (x : Stop) (m n : Kept R) (all : List Actual) (ps : List Passed) → x ≡ stop.Memory
    → PassedAll {U = U} Means m table all (Err x) ps n
memory_all Means table x m n all ps is = record { passed = λ g stands safe other. absurd (other is) }

pub ruleset all_rules = (rows_done, memory_all)
