-- The values of a point mark what they move and make cells: without the marks all that there was is as before.
use Rattle.std.proofs.Common.{◌≡◌, refl, sym, ap, ◌∙◌, subst, ℕ, zero, suc, ◌+◌, ◌-◌, arith, Bool, true, false, not, ◌&&◌, nat_le, nat_lt, List, [], ◌∷◌, ◌++◌, append_assoc, append-nil, drop, length, ℤ, pos, negsuc, if◌then◌else◌}
use Rattle.std.proofs.lemmas.Bool.Decides.{nat_tests}
use Rattle.std.proofs.lemmas.Bool.{false≢true}
use Rattle.machine.specs.type_definitions.Types.{Table}
use Rattle.kept_cells.specs.run_values.declared.value.Value.{Value}
use Rattle.kept_cells.specs.run_values.declared.value.Value.TheVariants as value
use Rattle.kept_cells.specs.run_values.declared.value.Kind.{Kind}
use Rattle.kept_cells.specs.run_values.declared.value.Kind.TheVariants as sort
use Rattle.machine.specs.Words.{access_offsets}
use Rattle.machine.specs.Evaluate.{StorageError, heap_words}
use Rattle.kept_cells.specs.Cells.{Cell, allocated}
use Rattle.run_codes.specs.Codes.{Place, Fill, Checked, Pointer as LookedAt, MovedPointer, Copied, Moved, Waited, New, Default, Repeated, Both, Empty, Actual, ByValue, From, To}
use Rattle.run_codes.specs.Flat.{Flat, Got, Given, Stops, Broken, Raises, Memory, and_then, gone_from, most_cells, is_word, are_words, as_fresh, all_fresh, value_of, values, word_of, checked, constraint, access, kinds, word, Spot, spot, held, moved_out, Made, Done, Halted, Failed, made_then, reads, with_cell, made, some_words, default_words, repeated, filled}
use Rattle.run_codes.specs.Points.{Passed, Value as PassedValue, FromSpot, ToSpot, passed, fits}
use Rattle.handled_runs.specs.Looks.{IsClear}
use Rattle.handled_runs.specs.Alike.{StandAt, LooksThere, LooksFill}
use Rattle.handled_runs.specs.Marks.{ValueUnmarked, ValuesUnmarked, CellsUnmarked, IsUnmarked}
use Rattle.handled_runs.proofs.Cells.{never_below}
use Rattle.handled_runs.proofs.Marking.{moved_same}
use Rattle.handled_runs.proofs.Unmarked.{clear_itself}
use Rattle.handled_steps.specs.Looks.{LooksActual}
use Rattle.recycled_runs.proofs.More.{Grows}
use Rattle.recycled_runs.proofs.Parted.{is_made}

-- ---- what is done

pub got_done : {A B : Type 0} (m : Flat) (g : Got A) (f : A → Made B) (b : B) (n : Flat) → reads m g f ≡ Done b n → (a : A) × (g ≡ Given a) × (f a ≡ Done b n)
got_done m (Given a) f b n e = (a, refl, e)
got_done m (Stops x) f b n e = absurd (false≢true (ap is_made e))
got_done m Broken f b n e = absurd (false≢true (ap is_made e))

pub made_done : {A B : Type 0} (x : Made A) (f : A → Flat → Made B) (b : B) (n : Flat) → made_then x f ≡ Done b n → (a : A) × (k : Flat) × (x ≡ Done a k) × (f a k ≡ Done b n)
made_done (Done a k) f b n e = (a, k, refl, e)
made_done (Halted x k) f b n e = absurd (false≢true (ap is_made e))
made_done Failed f b n e = absurd (false≢true (ap is_made e))

after_done : {A : Type 0} (a b : A) (m n : Flat) → Done a m ≡ Done b n → m ≡ n
after_done a b m n e = cc

-- ---- cells that are made

below_word : (n : ℕ) → nat_le (suc n) most_cells ≡ true → nat_lt n gone_from ≡ true
below_word n e = grind (arith, nat_tests)

one_unmarked : (k : Kind) (z : ℤ) → is_word k z ≡ true → ValueUnmarked (value_of k (as_fresh k z)) (value_of k z)
one_unmarked sort.Int z is = (refl, refl)
one_unmarked sort.Enum z is = (refl, refl)
one_unmarked sort.Access (pos zero) is = (refl, refl)
one_unmarked sort.Access (pos (suc n)) is =
    (refl, subst (λ b. (if b then pos (suc n) else negsuc (n - gone_from)) ≡ as_fresh sort.Access (if b then pos (suc n) else negsuc (n - gone_from))) (sym (below_word n is)) refl)
one_unmarked sort.Access (negsuc n) is =
    let low : word_of (value.Cell n) ≡ pos (suc n) = ap (λ b. if b then pos (suc n) else negsuc (n - gone_from)) (below_word n is) in
    let high : word_of (value.Cell (n + gone_from)) ≡ negsuc (n + gone_from - gone_from) = ap (λ b. if b then pos (suc (n + gone_from)) else negsuc (n + gone_from - gone_from)) (never_below n) in
    let same : negsuc (n + gone_from - gone_from) ≡ negsuc n = ap negsuc (back n) in
    (refl, low ∙ sym (ap (as_fresh sort.Access) (high ∙ same)))
  where
    back : (n : ℕ) → n + gone_from - gone_from ≡ n
    back n = omega arith

first_of : (a b : Bool) → a && b ≡ true → a ≡ true
first_of true b e = refl
first_of false b e = e

second_of : (a b : Bool) → a && b ≡ true → b ≡ true
second_of true b e = e
second_of false b e = absurd (false≢true e)

all_unmarked : (ks : List Kind) (zs : List ℤ) → are_words ks zs ≡ true → ValuesUnmarked (values ks (all_fresh ks zs)) (values ks zs)
all_unmarked [] zs is = tt
all_unmarked (k ∷ ks) [] is = absurd (false≢true is)
all_unmarked (k ∷ ks) (z ∷ zs) is = (one_unmarked k z (first_of (is_word k z) (are_words ks zs) is), all_unmarked ks zs (second_of (is_word k z) (are_words ks zs) is))

unmarked_long : (vs ws : List Value) → ValuesUnmarked vs ws → length vs ≡ length ws
unmarked_long [] [] are = refl
unmarked_long [] (w ∷ ws) are = absurd are
unmarked_long (v ∷ vs) [] are = absurd are
unmarked_long (v ∷ vs) (w ∷ ws) are = ap suc (unmarked_long vs ws are.1)

cells_on : (cs ds : List Cell) (us vs : List Value) → CellsUnmarked cs ds → ValuesUnmarked us vs → CellsUnmarked (allocated cs us) (allocated ds vs)
cells_on [] [] us vs are new = (refl, new, tt)
cells_on [] (d ∷ ds) us vs are new = absurd are
cells_on (c ∷ cs) [] us vs are new = absurd are
cells_on (c ∷ cs) (d ∷ ds) us vs are new = (are.0, are.1, cells_on cs ds us vs are.2 new)

-- ---- values

module _ (table : Table) (here taken : List Kind) (x : Flat) where
  -- Without the marks a memory is the first one, but for cells that were made.
  pub record Grown (m : Flat) : Type 0 where
    pub whole : Flat
    pub grows : Grows x whole
    pub unmarked : IsUnmarked here whole m

  pub grown_first : length here ≡ length x.stack → IsClear here taken x → Grown x
  grown_first known clear = record {
    whole = x;
    grows = record { stack = refl; base = refl; waits = refl; rest = refl; more = []; cells = sym (append-nil x.cells) };
    unmarked = clear_itself here taken x known clear;
  }

  pub base_same : (m : Flat) → Grown m → m.base ≡ x.base
  base_same m is = sym is.unmarked.base ∙ is.grows.base

  moves : (m n : Flat) (q : Spot) (ks : List Kind) (gone : List ℕ) → Grown m → StandAt m here q ks → moved_out m q ks gone ≡ Given n → Grown n
  moves m n q ks gone is stand e = record { whole = is.whole; grows = is.grows; unmarked = moved_same here is.whole m q ks gone n is.unmarked stand e }

  makes : (m : Flat) (ks : List Kind) (zs : List ℤ) → Grown m → are_words ks zs ≡ true → Grown (with_cell m (values ks zs))
  makes m ks zs is words =
      let un = is.unmarked in
      let us : List Value = values ks (all_fresh ks zs) in
      let new = all_unmarked ks zs words in
      record {
        whole = with_cell is.whole us;
        grows = record {
          stack = is.grows.stack;
          base = is.grows.base;
          waits = is.grows.waits;
          rest = is.grows.rest;
          more = is.grows.more ++ record { words = us; freed = false } ∷ [];
          cells = ap (λ cs. allocated cs us) is.grows.cells ∙ append_assoc x.cells is.grows.more (record { words = us; freed = false } ∷ []);
        };
        unmarked = record {
          stack = un.stack;
          known = un.known;
          cells = cells_on is.whole.cells m.cells us (values ks zs) un.cells new;
          base = un.base;
          freed = un.freed;
          live = (λ j. un.live j + unmarked_long us (values ks zs) new j);
          waits = un.waits;
          rest = un.rest;
        };
      }

  made_grows : (m n : Flat) (ks : List Kind) (zs us : List ℤ) → Grown m → made m ks zs ≡ Done us n → Grown n
  made_grows m n ks zs us is e = by (are_words ks zs) (nat_le (m.live + length zs) heap_words) (nat_lt (length m.cells) most_cells) refl e
    where
      by : (a b c : Bool) → are_words ks zs ≡ a
          → (if not a then Failed else (if b then (if c then Done (pos (suc (length m.cells)) ∷ []) (with_cell m (values ks zs)) else Halted Memory m) else Halted (Raises StorageError) m)) ≡ Done us n → Grown n
      by true true true words f = subst Grown (after_done (pos (suc (length m.cells)) ∷ []) us (with_cell m (values ks zs)) n f) (makes m ks zs is words)
      by true true false words f = absurd (false≢true (ap is_made f))
      by true false c words f = absurd (false≢true (ap is_made f))
      by false b c words f = absurd (false≢true (ap is_made f))

  -- where words of a place are moved
  place_moves : (m n : Flat) (p : Place) (ks : List Kind) (gone : List ℕ) (zs : List ℤ) → Grown m → LooksThere x.base here taken p ks
      → reads m (spot m p) (λ q. reads m (held m q ks) (λ zs. reads m (moved_out m q ks gone) (Done zs))) ≡ Done zs n → Grown n
  place_moves m n p ks gone zs is looks e =
      let at = got_done m (spot m p) (λ q. reads m (held m q ks) (λ zs. reads m (moved_out m q ks gone) (Done zs))) zs n e in
      let had = got_done m (held m at.0 ks) (λ zs. reads m (moved_out m at.0 ks gone) (Done zs)) zs n at.2 in
      let to = got_done m (moved_out m at.0 ks gone) (Done had.0) zs n had.2 in
      subst Grown (after_done had.0 zs to.0 n to.2) (moves m to.0 at.0 ks gone is ((looks m (base_same m is)).1 at.0 at.1) to.1)

  pub fill_grows : (v : Fill) (ks : List Kind) (m n : Flat) (zs : List ℤ) → Grown m → LooksFill table x.base here taken v ks → filled table v m ≡ Done zs n → Grown n
  unfolding filled LooksFill
  fill_grows (Checked c low high) ks m n zs is looks e =
      let got = got_done m (and_then (word m c) (checked low high)) (λ w. Done (w ∷ []) m) zs n e in subst Grown (after_done (got.0 ∷ []) zs m n got.2) is
  fill_grows (LookedAt c) ks m n zs is looks e = let got = got_done m (and_then (word m c) access) (λ w. Done (w ∷ []) m) zs n e in subst Grown (after_done (got.0 ∷ []) zs m n got.2) is
  fill_grows (MovedPointer p) ks m n zs is looks e = place_moves m n p (sort.Access ∷ []) (0 ∷ []) zs is looks.1 e
  fill_grows (Copied p of) ks m n zs is looks e =
      let at = got_done m (spot m p) (λ s. reads m (held m s (kinds table of)) (λ zs. Done zs m)) zs n e in
      let had = got_done m (held m at.0 (kinds table of)) (λ zs. Done zs m) zs n at.2 in
      subst Grown (after_done had.0 zs m n had.2) is
  fill_grows (Moved p of) ks m n zs is looks e = place_moves m n p (kinds table of) (access_offsets table of) zs is looks.1 e
  fill_grows (Waited at k) ks m n zs is looks e =
      let got = got_done m (some_words k (drop at m.waits)) (λ zs. Done zs m) zs n e in subst Grown (after_done got.0 zs m n got.2) is
  fill_grows (New v of) ks m n zs is looks e =
      let first = made_done (filled table v m) (λ zs n. made n (kinds table of) zs) zs n e in
      made_grows first.1 n (kinds table of) first.0 zs (fill_grows v (kinds table of) m first.1 first.0 is looks.1 first.2) first.3
  fill_grows (Default of) ks m n zs is looks e = subst Grown (after_done (default_words table of) zs m n e) is
  fill_grows (Repeated v k) ks m n zs is looks e =
      let first = made_done (filled table v m) (λ zs. Done (repeated k zs)) zs n e in
      subst Grown (after_done (repeated k first.0) zs first.1 n first.3) (fill_grows v looks.0 m first.1 first.0 is looks.2 first.2)
  fill_grows (Both a b) ks m n zs is looks e =
      let first = made_done (filled table a m) (λ zs n. made_then (filled table b n) (λ us. Done (zs ++ us))) zs n e in
      let second = made_done (filled table b first.1) (λ us. Done (first.0 ++ us)) zs n first.3 in
      subst Grown (after_done (first.0 ++ second.0) zs second.1 n second.3)
      (fill_grows b looks.1 first.1 second.1 second.0 (fill_grows a looks.0 m first.1 first.0 is looks.3 first.2) looks.4 second.2)
  fill_grows Empty ks m n zs is looks e = subst Grown (after_done [] zs m n e) is

  -- ---- actuals

  pub passed_grows : (formal : ℕ) (a : Actual) (m n : Flat) (p : Passed) → Grown m → LooksActual table x.base here taken formal a → passed table a m ≡ Done p n → Grown n
  passed_grows formal (ByValue v) m n p is looks e =
      let first = made_done (filled table v m) (λ zs. Done (PassedValue zs)) p n e in
      subst Grown (after_done (PassedValue first.0) p first.1 n first.3) (fill_grows v (kinds table formal) m first.1 first.0 is looks first.2)
  passed_grows formal (From q of within) m n p is looks e =
      let after : Spot → List ℤ → Made Passed = (λ s zs. if fits table within zs then Done (FromSpot s of) m else Halted constraint m) in
      let at = got_done m (spot m q) (λ s. reads m (held m s (kinds table of)) (after s)) p n e in
      let had = got_done m (held m at.0 (kinds table of)) (after at.0) p n at.2 in
      by (fits table within had.0) at.0 had.2
    where
      by : (b : Bool) (s : Spot) → (if b then Done (FromSpot s of) m else Halted constraint m) ≡ Done p n → Grown n
      by true s f = subst Grown (after_done (FromSpot s of) p m n f) is
      by false s f = absurd (false≢true (ap is_made f))
  passed_grows formal (To q of at) m n p is looks e =
      let found = got_done m (spot m q) (λ s. Done (ToSpot s of at) m) p n e in
      subst Grown (after_done (ToSpot found.0 of at) p m n found.2) is
