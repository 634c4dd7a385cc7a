-- Indexes of places: where a name leads on, they are evaluated as before, and one more after them.
use Rattle.std.proofs.Common.{◌≡◌, ℕ, zero, ◌+◌, ◌<◌, ◌≤◌, true, ◌&&◌, refl, ap, ◌∙◌, arith, ℤ, pos, nat_lt, if◌then◌else◌}
use Rattle.std.specs.Prelude.{unsigned_abs, int_le, ◌-ℤ◌, slice_get}
use Rattle.kept_cells.specs.run_values.declared.value.Kind.{Kind}
use Rattle.machine.specs.type_definitions.Types.{span}
use Rattle.run_codes.specs.Codes.{Code, Number, Local, Global, Via, Scaled, Plus, Unary, Binary, Short, IsNull, Waiting, EndOfFile, Nothing, InFrame, InPackages, Behind}
use Rattle.run_codes.specs.Codes as codes
use Rattle.run_codes.specs.Flat.{Flat, Got, Given, Stops, Broken, Stop, and_then, found, behind, offset, most_offsets, word, indexes}
use Rattle.run_codes.specs.Lowered.{no_index, load, moved_by, joined, indexed_by}
use Rattle.run_codes.specs.Related.{most_words}
use Rattle.run_codes.proofs.Places.{IsFurther, place_indexes, load_indexes, given_on, given_same}

-- ---- results

pub stops_on : {A B : Type 0} (got : Got A) (f : A → Got B) (s : Stop) → got ≡ Stops s → and_then got f ≡ Stops s
stops_on got f s is = ap (λ g. and_then g f) is

-- What stops at the same place stops the same way, whatever comes last.
pub last_stops : {A : Type 0} (got : Got A) (x y : Got A) (s : Stop) → (x ≡ Stops s → y ≡ Stops s) → and_then got (λ a. x) ≡ Stops s → and_then got (λ a. y) ≡ Stops s
last_stops (Given a) x y s on is = on is
last_stops (Stops t) x y s on is = is
last_stops Broken x y s on is = is

-- ---- both offsets

small_offset : (n : ℕ) → n ≤ most_words → nat_lt n most_offsets ≡ true
small_offset n small = grind arith

pub offset_given : (n : ℕ) → n ≤ most_words → offset n ≡ Given (pos n)
offset_given n small = ap (λ b. if b then Given (pos n) else Broken) (small_offset n small)

plus_given : (m : Flat) (i j : Code) (o n : ℕ) → o + n ≤ most_words → word m i ≡ Given (pos o) → word m j ≡ Given (pos n) → word m (Plus i j) ≡ Given (pos (o + n))
unfolding word
plus_given m i j o n small x y =
    ap (λ g. and_then g (λ a. and_then (word m j) (λ b. offset (unsigned_abs a + unsigned_abs b)))) x
    ∙ ap (λ g. and_then g (λ b. offset (o + unsigned_abs b))) y ∙ offset_given (o + n) small

plus_stops : (m : Flat) (i j : Code) (o : ℕ) (s : Stop) → word m i ≡ Given (pos o) → word m j ≡ Stops s → word m (Plus i j) ≡ Stops s
unfolding word
plus_stops m i j o s x y =
    ap (λ g. and_then g (λ a. and_then (word m j) (λ b. offset (unsigned_abs a + unsigned_abs b)))) x
    ∙ ap (λ g. and_then g (λ b. offset (o + unsigned_abs b))) y

plus_stopped : (m : Flat) (i j : Code) (s : Stop) → word m i ≡ Stops s → word m (Plus i j) ≡ Stops s
unfolding word
plus_stopped m i j s x = ap (λ g. and_then g (λ a. and_then (word m j) (λ b. offset (unsigned_abs a + unsigned_abs b)))) x

none_and : (o n : ℕ) → pos 0 ≡ pos o → n ≡ o + n
none_and o n is = omega (arith, ap unsigned_abs is)

pub joined_given : (m : Flat) (i j : Code) (o n : ℕ) → o + n ≤ most_words → word m i ≡ Given (pos o) → word m j ≡ Given (pos n) → word m (joined i j) ≡ Given (pos (o + n))
unfolding word
joined_given m (Number (pos zero)) j o n small x y = y ∙ ap (λ k. Given (pos k)) (none_and o n (given_same (pos 0) (pos o) x))
joined_given m i j o n small x y = plus_given m i j o n small x y

pub joined_stops : (m : Flat) (i j : Code) (o : ℕ) (s : Stop) → word m i ≡ Given (pos o) → word m j ≡ Stops s → word m (joined i j) ≡ Stops s
joined_stops m (Number (pos zero)) j o s x y = y
joined_stops m i j o s x y = plus_stops m i j o s x y

never_stops : {A B : Type 0} (a : A) (s : Stop) → Given a ≡ Stops s → B
never_stops a s is = absurd (never a s is)
  where
    never : {A : Type 0} (a : A) (s : Stop) → Given a ≡ Stops s → ⊥
    never a s is = cc

joined_stopped : (m : Flat) (i j : Code) (s : Stop) → word m i ≡ Stops s → word m (joined i j) ≡ Stops s
unfolding word
joined_stopped m (Number (pos zero)) j s x = never_stops (pos 0) s x
joined_stopped m i j s x = plus_stopped m i j s x

-- ---- places further on

pub moved_further : (n o : ℕ) (p : codes.Place) → IsFurther p (moved_by n p) o o n
moved_further n o (InFrame at i) = (at + n, i, refl, omega arith)
moved_further n o (InPackages at i) = (at + n, i, refl, omega arith)
moved_further n o (Behind a at i) = (at + n, i, refl, omega arith)

pub indexed_further : (j : Code) (o n : ℕ) (p : codes.Place) → IsFurther p (indexed_by j p) o (o + n) n
indexed_further j o n (InFrame at i) = (at, joined i j, refl, omega arith)
indexed_further j o n (InPackages at i) = (at, joined i j, refl, omega arith)
indexed_further j o n (Behind a at i) = (at, joined i j, refl, omega arith)

pub moved_indexes : (m : Flat) (n : ℕ) (p : codes.Place) → place_indexes m (moved_by n p) ≡ place_indexes m p
moved_indexes m n (InFrame at i) = refl
moved_indexes m n (InPackages at i) = refl
moved_indexes m n (Behind a at i) = refl

pub indexed_given : (m : Flat) (j : Code) (o n : ℕ) (p : codes.Place) → o + n ≤ most_words → place_indexes m p ≡ Given (pos o) → word m j ≡ Given (pos n)
    → place_indexes m (indexed_by j p) ≡ Given (pos (o + n))
indexed_given m j o n (InFrame at i) small x y = joined_given m i j o n small x y
indexed_given m j o n (InPackages at i) small x y = joined_given m i j o n small x y
indexed_given m j o n (Behind a at i) small x y =
    let seen = given_on (indexes m a) (λ z. word m i) (pos o) x in
    ap (λ g. and_then g (λ z. word m (joined i j))) seen.1 ∙ joined_given m i j o n small seen.2 y

pub indexed_stops : (m : Flat) (j : Code) (o : ℕ) (s : Stop) (p : codes.Place) → place_indexes m p ≡ Given (pos o) → word m j ≡ Stops s
    → place_indexes m (indexed_by j p) ≡ Stops s
indexed_stops m j o s (InFrame at i) x y = joined_stops m i j o s x y
indexed_stops m j o s (InPackages at i) x y = joined_stops m i j o s x y
indexed_stops m j o s (Behind a at i) x y =
    let seen = given_on (indexes m a) (λ z. word m i) (pos o) x in
    ap (λ g. and_then g (λ z. word m (joined i j))) seen.1 ∙ joined_stops m i j o s seen.2 y

pub indexed_stopped : (m : Flat) (j : Code) (s : Stop) (p : codes.Place) → place_indexes m p ≡ Stops s → place_indexes m (indexed_by j p) ≡ Stops s
indexed_stopped m j s (InFrame at i) x = joined_stopped m i j s x
indexed_stopped m j s (InPackages at i) x = joined_stopped m i j s x
indexed_stopped m j s (Behind a at i) x = last_stops (indexes m a) (word m i) (word m (joined i j)) s (joined_stopped m i j s) x

pub designated_given : (m : Flat) (k : Kind) (x : ℤ) (p : codes.Place) → place_indexes m p ≡ Given x → place_indexes m (Behind (load k p) 0 no_index) ≡ Given (pos 0)
unfolding word
designated_given m k x p is = ap (λ g. and_then g (λ z. Given (pos 0))) (load_indexes m k p ∙ is)

pub designated_stopped : (m : Flat) (k : Kind) (s : Stop) (p : codes.Place) → place_indexes m p ≡ Stops s → place_indexes m (Behind (load k p) 0 no_index) ≡ Stops s
unfolding word
designated_stopped m k s p is = ap (λ g. and_then g (λ z. Given (pos 0))) (load_indexes m k p ∙ is)

-- The word of a place stops where its indexes do.
pub load_stops : (m : Flat) (k : Kind) (s : Stop) (p : codes.Place) → place_indexes m p ≡ Stops s → word m (load k p) ≡ Stops s
unfolding word indexes
load_stops m k s (InFrame at i) x = stops_on (word m i) (λ o. found (slice_get m.stack (m.base + at + unsigned_abs o))) s x
load_stops m k s (InPackages at i) x = stops_on (word m i) (λ o. found (slice_get m.stack (at + unsigned_abs o))) s x
load_stops m k s (Behind a at i) x =
    last_stops (indexes m a) (word m i) (and_then (word m i) (λ o. and_then (word m a) (behind m (at + unsigned_abs o) k))) s
    (λ y. stops_on (word m i) (λ o. and_then (word m a) (behind m (at + unsigned_abs o) k)) s y) x

-- ---- the number of an element

pub element_within : (low high z : ℤ) → (int_le low z && int_le z high) ≡ true → unsigned_abs (z -ℤ low) < span low high
element_within low high z is = grind arith
