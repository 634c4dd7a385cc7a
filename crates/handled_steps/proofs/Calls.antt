-- Calls, over both heaps.
use Rattle.std.proofs.Common.{◌≡◌, refl, sym, ap, ◌∙◌, subst, ℕ, zero, suc, ◌+◌, ◌≤◌, arith, Bool, true, false, nat_le, List, [], ◌∷◌, ◌++◌, take, drop, length, Option, Some, None, ℤ, if◌then◌else◌}
use Rattle.std.specs.Prelude.{sum}
use mathlib.Core.Logic.{inl, inr}
use Rattle.handled_runs.specs.type_definitions.Types.{Table, full}
use Rattle.handled_runs.specs.run_values.declared.value.Kind.{Kind}
use Rattle.handled_runs.specs.machine.Words.{access_offsets}
use Rattle.handled_runs.specs.machine.Evaluate.{StorageError}
use Rattle.handled_runs.specs.machine.States.{Leak, stack_words}
use Rattle.handled_runs.specs.run_codes.Codes.{Actual, Sub}
use Rattle.handled_runs.specs.run_codes.Flat.{Flat, Got, Given, Stops, Broken, Raises, Stop, Made, Done, Halted, Failed, and_then, kinds, Spot, InStack, InCell}
use Rattle.handled_runs.specs.run_codes.Flat as flat
use Rattle.handled_runs.proofs.run_codes.Places.{given_on}
use Rattle.handled_runs.specs.run_codes.Points.{Return, Frame, Passed, Value, FromSpot, ToSpot, frames_words, return_of, returns_of, sub_at}
use Rattle.handled_runs.specs.run_codes.Points as points
use Rattle.handled_runs.specs.Slots.{Slots, Move}
use Rattle.handled_runs.specs.Slots as slots
use Rattle.handled_runs.specs.Changes.{stored, moving}
use Rattle.handled_runs.specs.Leaks.{leaks_at}
use Rattle.handled_runs.specs.Beside.{IsSilent, GotsAlike, spot_renamed, NamesSpot, Beside}
use Rattle.handled_runs.specs.Looks.{IsFront}
use Rattle.handled_runs.specs.Alike.{StandAt}
use Rattle.handled_runs.specs.Marks.{Stands, MovesStand, During}
use Rattle.handled_runs.proofs.Gots.{gots_then, given_both}
use Rattle.handled_runs.proofs.Places.{as_long}
use Rattle.handled_runs.proofs.There.{AreRenamed, moved_silent, stored_silent}
use Rattle.handled_runs.proofs.Marking.{stands_at, during_moved}
use Rattle.handled_runs.proofs.Copies.{helds_alike, move_stands}
use Rattle.handled_runs.proofs.Framed.{stands_of, stands_longer, IsLow, AreLow, during_pushed, during_stored}
use Rattle.handled_runs.proofs.Leaks.{leaks_gots}
use Rattle.handled_steps.specs.States.{Outcome, Goes, Fails, Turn, start, halted, waiting, on_got, with_frame, frame_of}
use Rattle.handled_steps.specs.Steps.{Passing, Passes, Stopping, Failing, out_leaks, with_formal, with_formals, on_settled, begins, begun_with, entered, on_passed, CallsSub}
use Rattle.handled_steps.specs.Alike.{Paired, ReturnAlike, FrameAlike, StatesAlike, OutcomesAlike, frame_kinds, led_kinds}
use Rattle.handled_steps.specs.Backs.{FitsOf, LooksBack, LookBack}
use Rattle.handled_steps.specs.Looks.{HavePointers, LooksOut, LooksFormals, IsGoing, LooksCall, taken_kinds}
use Rattle.handled_steps.proofs.Pairs.{paired_map, paired_append}
use Rattle.handled_steps.proofs.Turns.{Both, flat_turn, slot_turn, start_during, read_during, settled_on, stops_during, wants_alike, silent_halts, after_alike, waiting_on, take_known}
use Rattle.handled_steps.proofs.Tables.{template_numbers}
use Rattle.handled_steps.proofs.Passing.{PassedAlike, AllPassed, AreThere, PassingAlike, all_alike}

-- ---- leak checks of `out` actuals

module _ (table : Table) (pointers : HavePointers table) (handles : List ℕ) (here taken : List Kind) (m : Flat) (s : Slots) (beside : Beside handles here taken m s) where
  abbrev SameLeaks : Got (List Leak) → Got (List Leak) → Type 0
  SameLeaks = GotsAlike (λ a b. b ≡ a)

  out_gots : (formals : List ℕ) (ps qs : List Passed) → AllPassed table handles here formals ps qs → LooksOut table m ps → SameLeaks (points.out_leaks table m ps) (out_leaks table s qs)
  out_gots formals [] [] all looks = refl
  out_gots formals [] (q ∷ qs) all looks = absurd all
  out_gots [] (p ∷ ps) [] all looks = absurd all
  out_gots (f ∷ formals) (p ∷ ps) [] all looks = absurd all
  out_gots [] (p ∷ ps) (q ∷ qs) all looks = absurd all
  out_gots (f ∷ formals) (Value zs ∷ ps) (Value us ∷ qs) all looks = out_gots formals ps qs all.1 looks
  out_gots (f ∷ formals) (Value zs ∷ ps) (FromSpot r o ∷ qs) all looks = absurd all.0
  out_gots (f ∷ formals) (Value zs ∷ ps) (ToSpot r o a ∷ qs) all looks = absurd all.0
  out_gots (f ∷ formals) (FromSpot q of ∷ ps) (Value us ∷ qs) all looks = absurd all.0
  out_gots (f ∷ formals) (FromSpot q of ∷ ps) (FromSpot r o ∷ qs) all looks = out_gots formals ps qs all.1 looks
  out_gots (f ∷ formals) (FromSpot q of ∷ ps) (ToSpot r o a ∷ qs) all looks = absurd all.0
  out_gots (f ∷ formals) (ToSpot q of at ∷ ps) (Value us ∷ qs) all looks = absurd all.0
  out_gots (f ∷ formals) (ToSpot q of at ∷ ps) (FromSpot r o ∷ qs) all looks = absurd all.0
  out_gots (f ∷ formals) (ToSpot q of at ∷ ps) (ToSpot r o a ∷ qs) all looks =
      subst (λ x. SameLeaks (points.out_leaks table m (ToSpot q of at ∷ ps)) (out_leaks table s (ToSpot x o a ∷ qs))) (sym all.0.0.0)
      (subst (λ x. SameLeaks (points.out_leaks table m (ToSpot q of at ∷ ps)) (out_leaks table s (ToSpot (spot_renamed handles q) x a ∷ qs))) (sym all.0.1)
      (subst (λ x. SameLeaks (points.out_leaks table m (ToSpot q of at ∷ ps)) (out_leaks table s (ToSpot (spot_renamed handles q) of x ∷ qs))) (sym all.0.2)
      (gots_then (λ a b. b ≡ a) (λ a b. b ≡ a) (points.leaks_at table m q of at) (leaks_at table s (spot_renamed handles q) of at)
      (λ leaks. and_then (points.out_leaks table m ps) (λ more. Given (leaks ++ more))) (λ leaks. and_then (out_leaks table s qs) (λ more. Given (leaks ++ more)))
      (leaks_gots handles here taken m s beside table q of at (stands_at handles here taken m beside.known q (kinds table of) all.0.3) (pointers of) looks.0)
      (λ leaks ls found same.
      gots_then (λ a b. b ≡ a) (λ a b. b ≡ a) (points.out_leaks table m ps) (out_leaks table s qs) (λ more. Given (leaks ++ more)) (λ more. Given (ls ++ more)) (out_gots formals ps qs all.1 looks.1)
      (λ more mores found_more same_more. ap (λ xs. xs ++ mores) same ∙ ap (λ ys. leaks ++ ys) same_more)))))

-- ---- formals that get their values

front_room : (ks : List Kind) (n : ℕ) (js : List Kind) → IsFront ks (drop n js) → n ≤ length js → n + length ks ≤ length js
front_room ks zero js is less = by ks js is
  where
    by : (ks js : List Kind) → IsFront ks js → zero + length ks ≤ length js
    by [] js is = omega arith
    by (k ∷ ks) [] is = absurd is
    by (k ∷ ks) (j ∷ js) is = let more = by ks js is.1 in omega (arith, more)
front_room ks (suc n) [] is less = absurd (omega (arith, less))
front_room ks (suc n) (j ∷ js) is less = let more = front_room ks n js is (omega (arith, less)) in omega (arith, more)

low_of : (here : List Kind) (at : ℕ) (q : Spot) (ks : List Kind) → length here ≤ at → Stands here q ks → IsLow at q ks
low_of here at (InStack n) ks less stand = let room = front_room ks n here stand.0 stand.1 in omega (arith, room, less)
low_of here at (InCell n o) ks less stand = tt

all_low : (here : List Kind) (bound : ℕ) (at : ℕ) (ps : List Move) → length here ≤ at → MovesStand here bound ps → AreLow at ps
all_low here bound at [] less stand = tt
all_low here bound at (q ∷ ps) less stand = (low_of here at q.at q.kinds less (stands_of here bound q.at q.kinds stand.0), all_low here bound at ps less stand.1)

lower : (a b : ℕ) (q : Spot) (ks : List Kind) → a ≤ b → IsLow a q ks → IsLow b q ks
lower a b (InStack n) ks less low = omega (arith, less, low)
lower a b (InCell n o) ks less low = tt

all_lower : (a b : ℕ) (ps : List Move) → a ≤ b → AreLow a ps → AreLow b ps
all_lower a b [] less low = tt
all_lower a b (q ∷ ps) less low = (lower a b q.at q.kinds less low.0, all_lower a b ps less low.1)

low_next : (at : ℕ) (ps : List Move) (q : Move) → AreLow at ps → IsLow at q.at q.kinds → AreLow at (ps ++ q ∷ [])
low_next at [] q low is = (is, tt)
low_next at (p ∷ ps) q low is = (low.0, low_next at ps q low.1 is)

module _ (table : Table) (handles : List ℕ) (old more taken : List Kind) where
  abbrev deeper : List Kind
  deeper = old ++ more

  -- In the course of the call, and what was moved ends before an index.
  abbrev Here : ℕ → Flat → Slots → Type 0
  Here at m s = (d : During handles deeper taken m s) × AreLow at d.moves

  known_at : (m : Flat) (s : Slots) → During handles deeper taken m s → (q : Spot) (ks : List Kind) → Stands old q ks → StandAt m deeper q ks
  known_at m s d q ks stand = stands_at handles deeper taken m d.unmarked.known q ks (stands_longer old more q ks stand)

  stored_gots : (at f : ℕ) (zs us : List ℤ) (m : Flat) (s : Slots) (is : Here at m s) → IsFront (kinds table f) (drop at deeper) → AreRenamed handles (kinds table f) zs us
      → (after : Flat) → flat.stored m (InStack at) (kinds table f) zs ≡ Given after → (t : Slots) × (stored s (InStack at) (kinds table f) us ≡ Given t) × Here at after t
  stored_gots at f zs us m s is front words after e =
      let done = during_stored handles deeper taken m after s at (kinds table f) (kinds table f) zs is.0 is.1 front words.known words.names words.kept e in
      (done.0, ap (stored s (InStack at) (kinds table f)) words.words ∙ done.1, (done.2, subst (AreLow at) (sym done.3) is.1))

  moved_here : (at : ℕ) (q : Spot) (of : ℕ) (m after : Flat) (s : Slots) (is : Here at m s) → length old ≤ at → NamesSpot (length handles) q → Stands old q (kinds table of)
      → flat.moved_out m q (kinds table of) (access_offsets table of) ≡ Given after → Here at after (moving s (spot_renamed handles q) (kinds table of) (access_offsets table of))
  moved_here at q of m after s is less names stand e =
      let gone : List ℕ = access_offsets table of in
      let ks : List Kind = kinds table of in
      let there = move_stands handles deeper taken m s is.0 q ks gone after (known_at m s is.0 q ks stand) e in
      let done = during_moved handles deeper taken m after s q ks gone is.0 there e in
      (done.0, subst (AreLow at) (sym done.1) (low_next at is.0.moves (record { at = q; kinds = ks; offsets = gone }) is.1 (low_of old at q ks less stand)))

  formal_gots : (at f : ℕ) (p q : Passed) (m : Flat) (s : Slots) → Here at m s → length old ≤ at → PassedAlike table handles old f p q → IsFront (kinds table f) (drop at deeper)
      → GotsAlike (Here at) (points.with_formal table at f p m) (with_formal table at f q s)
  formal_gots at f (Value zs) (Value us) m s is less alike front =
      given_both (Here at) (flat.stored m (InStack at) (kinds table f) zs) (stored s (InStack at) (kinds table f) us) (stored_silent m (InStack at) (kinds table f) zs) (stored_gots at f zs us m s is front alike)
  formal_gots at f (Value zs) (FromSpot r o) m s is less alike front = absurd alike
  formal_gots at f (Value zs) (ToSpot r o a) m s is less alike front = absurd alike
  formal_gots at f (FromSpot q of) (Value us) m s is less alike front = absurd alike
  formal_gots at f (FromSpot q of) (FromSpot r o) m s is less alike front =
      subst (λ x. GotsAlike (Here at) (points.with_formal table at f (FromSpot q of) m) (with_formal table at f (FromSpot x o) s)) (sym alike.0.0)
      (subst (λ x. GotsAlike (Here at) (points.with_formal table at f (FromSpot q of) m) (with_formal table at f (FromSpot (spot_renamed handles q) x) s)) (sym alike.1)
      (gots_then (AreRenamed handles ks) (Here at) (flat.held m q ks) (slots.held s (spot_renamed handles q) ks)
      (λ zs. and_then (flat.moved_out m q ks gone) (λ n. flat.stored n (InStack at) (kinds table f) zs)) (λ us. stored (moving s (spot_renamed handles q) ks gone) (InStack at) (kinds table f) us)
      (helds_alike handles deeper taken m s is.0 q ks (known_at m s is.0 q ks alike.2))
      (λ zs us found words.
      given_both (Here at) (and_then (flat.moved_out m q ks gone) (λ n. flat.stored n (InStack at) (kinds table f) zs)) (stored (moving s (spot_renamed handles q) ks gone) (InStack at) (kinds table f) us) (silent zs)
      (λ after e.
      let on = given_on (flat.moved_out m q ks gone) (λ n. flat.stored n (InStack at) (kinds table f) zs) after e in
      stored_gots at f zs us on.0 (moving s (spot_renamed handles q) ks gone) (moved_here at q of m on.0 s is less alike.0.1 alike.2 on.1) front (subst (λ js. AreRenamed handles js zs us) alike.3 words) after on.2))))
    where
      ks : List Kind
      ks = kinds table of

      gone : List ℕ
      gone = access_offsets table of

      silent : (zs : List ℤ) (x : Stop) → and_then (flat.moved_out m q ks gone) (λ n. flat.stored n (InStack at) (kinds table f) zs) ≡ Stops x → IsSilent x
      silent zs x e = by (flat.moved_out m q ks gone) refl e
        where
          by : (g : Got Flat) → flat.moved_out m q ks gone ≡ g → and_then g (λ n. flat.stored n (InStack at) (kinds table f) zs) ≡ Stops x → IsSilent x
          by (Given n) found h = stored_silent n (InStack at) (kinds table f) zs x h
          by (Stops y) found h = subst IsSilent (let same : y ≡ x = cc in same) (moved_silent m q ks gone y found)
          by Broken found h = cc
  formal_gots at f (FromSpot q of) (ToSpot r o a) m s is less alike front = absurd alike
  formal_gots at f (ToSpot q of p) (Value us) m s is less alike front = absurd alike
  formal_gots at f (ToSpot q of p) (FromSpot r o) m s is less alike front = absurd alike
  formal_gots at f (ToSpot q of p) (ToSpot r o a) m s is less alike front =
      subst (λ x. GotsAlike (Here at) (points.with_formal table at f (ToSpot q of p) m) (with_formal table at f (ToSpot x o a) s)) (sym alike.0.0)
      (subst (λ x. GotsAlike (Here at) (points.with_formal table at f (ToSpot q of p) m) (with_formal table at f (ToSpot (spot_renamed handles q) x a) s)) (sym alike.1)
      (given_both (Here at) (flat.moved_out m q (kinds table of) (access_offsets table of)) (Given (moving s (spot_renamed handles q) (kinds table of) (access_offsets table of)))
      (moved_silent m q (kinds table of) (access_offsets table of))
      (λ after e. (moving s (spot_renamed handles q) (kinds table of) (access_offsets table of), refl, moved_here at q of m after s is less alike.0.1 alike.3 e))))

  formals_gots : (at : ℕ) (formals : List ℕ) (ps qs : List Passed) (m : Flat) (s : Slots) → Here at m s → length old ≤ at → AllPassed table handles old formals ps qs → LooksFormals table at formals deeper
      → GotsAlike (λ n t. During handles deeper taken n t) (points.with_formals table at formals ps m) (with_formals table at formals qs s)
  formals_gots at [] [] [] m s is less all looks = is.0
  formals_gots at [] [] (q ∷ qs) m s is less all looks = absurd all
  formals_gots at [] (p ∷ ps) [] m s is less all looks = absurd all
  formals_gots at [] (p ∷ ps) (q ∷ qs) m s is less all looks = absurd all
  formals_gots at (f ∷ formals) [] [] m s is less all looks = is.0
  formals_gots at (f ∷ formals) [] (q ∷ qs) m s is less all looks = absurd all
  formals_gots at (f ∷ formals) (p ∷ ps) [] m s is less all looks = absurd all
  formals_gots at (f ∷ formals) (p ∷ ps) (q ∷ qs) m s is less all looks =
      let next : ℕ = at + length (kinds table f) in
      gots_then (Here at) (λ n t. During handles deeper taken n t) (points.with_formal table at f p m) (with_formal table at f q s)
      (points.with_formals table next formals ps) (with_formals table next formals qs)
      (formal_gots at f p q m s is less all.0 looks.0)
      (λ n t given both. formals_gots next formals ps qs n t (both.0, all_lower at next both.0.moves (omega arith) both.1) (omega (arith, less)) all.1 looks.2)

module _ (table : Table) (handles : List ℕ) (here : List Kind) where
  -- ---- what is copied back at the end

  return_alike : (at f : ℕ) (p q : Passed) → PassedAlike table handles here f p q → Paired (ReturnAlike handles) (return_of at f p) (return_of at f q)
  return_alike at f (Value zs) (Value us) is = tt
  return_alike at f (Value zs) (FromSpot r o) is = absurd is
  return_alike at f (Value zs) (ToSpot r o a) is = absurd is
  return_alike at f (FromSpot q of) (Value us) is = absurd is
  return_alike at f (FromSpot q of) (FromSpot r o) is = (record { at = refl; from = refl; to = is.0.0; of = is.1; names = is.0.1 }, tt)
  return_alike at f (FromSpot q of) (ToSpot r o a) is = absurd is
  return_alike at f (ToSpot q of p) (Value us) is = absurd is
  return_alike at f (ToSpot q of p) (FromSpot r o) is = absurd is
  return_alike at f (ToSpot q of p) (ToSpot r o a) is = (record { at = refl; from = refl; to = is.0.0; of = is.1; names = is.0.1 }, tt)

  returns_alike : (at : ℕ) (formals : List ℕ) (ps qs : List Passed) → AllPassed table handles here formals ps qs → Paired (ReturnAlike handles) (returns_of table at formals ps) (returns_of table at formals qs)
  returns_alike at [] [] [] all = tt
  returns_alike at [] [] (q ∷ qs) all = absurd all
  returns_alike at [] (p ∷ ps) [] all = absurd all
  returns_alike at [] (p ∷ ps) (q ∷ qs) all = absurd all
  returns_alike at (f ∷ formals) [] [] all = tt
  returns_alike at (f ∷ formals) [] (q ∷ qs) all = absurd all
  returns_alike at (f ∷ formals) (p ∷ ps) [] all = absurd all
  returns_alike at (f ∷ formals) (p ∷ ps) (q ∷ qs) all =
      paired_append (ReturnAlike handles) (return_of at f p) (returns_of table (at + length (kinds table f)) formals ps) (return_of at f q) (returns_of table (at + length (kinds table f)) formals qs)
      (return_alike at f p q all.0) (returns_alike (at + length (kinds table f)) formals ps qs all.1)

-- ---- the places of what is copied back

backs_append : (table : Table) (base : ℕ) (rs more : List Return) (here : List Kind) → LooksBack table base rs here → LooksBack table base more here → LooksBack table base (rs ++ more) here
backs_append table base [] more here first second = second
backs_append table base (r ∷ rs) more here first second = (first.0, backs_append table base rs more here first.1 second)

module _ (table : Table) (handles : List ℕ) (old more : List Kind) (base : ℕ) where
  return_looks : (at f : ℕ) (p q : Passed) → PassedAlike table handles old f p q → IsFront (kinds table f) (drop (base + at) (old ++ more)) → base + at ≤ length (old ++ more)
      → LooksBack table base (return_of at f p) (old ++ more)
  return_looks at f (Value zs) (Value us) alike front within = tt
  return_looks at f (Value zs) (FromSpot r o) alike front within = absurd alike
  return_looks at f (Value zs) (ToSpot r o a) alike front within = absurd alike
  return_looks at f (FromSpot q of) (Value us) alike front within = absurd alike
  return_looks at f (FromSpot q of) (FromSpot r o) alike front within =
      (((front, within), sym alike.3, subst (FitsOf (full table of)) alike.3 alike.4, stands_longer old more q (kinds table of) alike.2), tt)
  return_looks at f (FromSpot q of) (ToSpot r o a) alike front within = absurd alike
  return_looks at f (ToSpot q of p) (Value us) alike front within = absurd alike
  return_looks at f (ToSpot q of p) (FromSpot r o) alike front within = absurd alike
  return_looks at f (ToSpot q of p) (ToSpot r o a) alike front within =
      (((front, within), sym alike.4, subst (FitsOf (full table of)) alike.4 alike.5, stands_longer old more q (kinds table of) alike.3), tt)

  returns_look : (at : ℕ) (formals : List ℕ) (ps qs : List Passed) → AllPassed table handles old formals ps qs → LooksFormals table (base + at) formals (old ++ more)
      → LooksBack table base (returns_of table at formals ps) (old ++ more)
  returns_look at [] [] [] all looks = tt
  returns_look at [] [] (q ∷ qs) all looks = absurd all
  returns_look at [] (p ∷ ps) [] all looks = absurd all
  returns_look at [] (p ∷ ps) (q ∷ qs) all looks = absurd all
  returns_look at (f ∷ formals) [] [] all looks = tt
  returns_look at (f ∷ formals) [] (q ∷ qs) all looks = absurd all
  returns_look at (f ∷ formals) (p ∷ ps) [] all looks = absurd all
  returns_look at (f ∷ formals) (p ∷ ps) (q ∷ qs) all looks =
      let next : base + at + length (kinds table f) ≡ base + (at + length (kinds table f)) = omega arith in
      backs_append table base (return_of at f p) (returns_of table (at + length (kinds table f)) formals ps) (old ++ more) (return_looks at f p q all.0 looks.0 looks.1)
      (returns_look (at + length (kinds table f)) formals ps qs all.1 (subst (λ i. LooksFormals table i formals (old ++ more)) next looks.2))

-- ---- the laws

module _ (handles : List ℕ) (here : List Kind) (z : Both handles here) where
  abbrev t : points.Turn
  t = flat_turn handles here z

  abbrev u : Turn
  u = slot_turn handles here z

  abbrev takes : List Kind
  takes = taken_kinds t

  abbrev Same : List Kind → points.Outcome → Outcome → Type 0
  Same = OutcomesAlike z.table handles

  module _ (sub : Sub) (n : Option ℕ) (more : List ℕ) (ps qs : List Passed) (m : Flat) (s : Slots) (during : During (handles ++ more) here takes m s)
      (all : AllPassed z.table (handles ++ more) here sub.formals ps qs) (goes_on : IsGoing n) where
    abbrev hs : List ℕ
    hs = handles ++ more

    abbrev now : List Kind
    now = here ++ frame_kinds z.table sub

    abbrev there : List Kind
    there = led_kinds t now n

    long : length s.stack ≡ length m.stack
    long = as_long hs here takes during.whole s during.beside ∙ (sym during.beside.known ∙ during.unmarked.known)

    words_same : frames_words (frame_of s sub [] ∷ z.g ∷ z.gs) ≡ frames_words (points.frame_of m sub [] ∷ z.f ∷ z.fs)
    words_same =
        ap (λ (xs : List ℕ). sum (sub.words ∷ xs))
        (paired_map (FrameAlike z.table handles) (λ (f : Frame). f.words) (λ (f : Frame). f.words) (λ x y is. is.words) (z.f ∷ z.fs) (z.g ∷ z.gs) (z.frame, z.outer))

    abbrev flat_begins : List Leak → Flat → points.State
    flat_begins leaks f =
        let a : points.State = points.leaking leaks (points.after t (points.waiting t) f n) in
        record a { frames = points.frame_of m sub (returns_of z.table 0 sub.formals ps) ∷ a.frames }

    begins_alike : (leaks : List Leak) (f : Flat) (g : Slots) → Beside hs now takes f g → StatesAlike z.table hs there (flat_begins leaks f) (begins u sub qs s n leaks g)
    begins_alike leaks f g both =
        let is = after_alike handles here z more now takes f g both (points.waiting t) (waiting u) (waiting_on handles here z more now takes f g both) n in record {
          taken = is.taken;
          memory = is.memory;
          frames = (record { base = long; next = refl; words = refl; waits = tt; returns = returns_alike z.table hs here 0 sub.formals ps qs all }, is.frames);
          at = is.at;
          output = is.output;
          leaks = ap (λ ls. ls ++ leaks) is.leaks;
          steps = is.steps;
        }

    begins_back : LooksFormals z.table (length here) sub.formals now → (leaks : List Leak) (f : Flat) → LookBack z.table there (flat_begins leaks f).frames
    begins_back looks leaks f = by n goes_on
      where
        returned : LooksBack z.table (length m.stack) (returns_of z.table 0 sub.formals ps) now
        returned =
            let known = during.unmarked.known in
            let from : length here ≡ length m.stack + 0 = omega (arith, known) in
            returns_look z.table hs here (frame_kinds z.table sub) (length m.stack) 0 sub.formals ps qs all (subst (λ i. LooksFormals z.table i sub.formals now) from looks)

        below : LookBack z.table (take (length m.stack) now) (z.f ∷ z.fs)
        below = subst (λ ks. LookBack z.table ks (z.f ∷ z.fs)) (sym (take_known here (frame_kinds z.table sub) (length m.stack) during.unmarked.known)) z.back

        by : (n : Option ℕ) → IsGoing n
            → LookBack z.table (led_kinds t now n) (points.frame_of m sub (returns_of z.table 0 sub.formals ps) ∷ (points.after t (points.waiting t) f n).frames)
        by (Some k) goes_on = (returned, below)
        by None goes_on = absurd goes_on

    abbrev flat_entered : Bool → points.Outcome
    flat_entered b =
        if b
        then points.on_got t m (points.out_leaks z.table m ps)
        (λ leaks. points.on_got t m (points.with_formals z.table (length m.stack) sub.formals ps (points.with_frame z.table sub m)) (λ f. points.Goes (flat_begins leaks f)))
        else points.halted t (Raises StorageError) m

    abbrev slots_entered : Bool → ℕ → Outcome
    slots_entered b l =
        if b
        then on_settled u s (λ k. on_got u s (out_leaks z.table k qs) (λ leaks. on_got u s (with_formals z.table l sub.formals qs (with_frame z.table sub s)) (begun_with u sub qs s n leaks)))
        else halted u (Raises StorageError) s

    -- the frame is there
    pushed : Here z.table hs here (frame_kinds z.table sub) takes (length m.stack) (points.with_frame z.table sub m) (with_frame z.table sub s)
    pushed =
        let less = during.unmarked.known in
        let done = during_pushed hs here takes m s (frame_kinds z.table sub) (points.template z.table sub) during (template_numbers z.table sub) in
        (done.0, subst (AreLow (length m.stack)) (sym done.1) (all_low here (length hs) (length m.stack) during.moves (omega (arith, less)) during.stand))

    module _ (pointers : HavePointers z.table) (out : LooksOut z.table m ps) (looks : LooksFormals z.table (length here) sub.formals now) where
      leaks_made : (k : Slots) → Beside hs here takes m k → Same there
          (points.on_got t m (points.out_leaks z.table m ps)
          (λ leaks. points.on_got t m (points.with_formals z.table (length m.stack) sub.formals ps (points.with_frame z.table sub m)) (λ f. points.Goes (flat_begins leaks f))))
          (on_got u s (out_leaks z.table k qs) (λ leaks. on_got u s (with_formals z.table (length m.stack) sub.formals qs (with_frame z.table sub s)) (begun_with u sub qs s n leaks)))
      leaks_made k beside =
          let known = during.unmarked.known in
          read_during handles here z more here takes m s during (λ a b. b ≡ a) there (points.out_leaks z.table m ps) (out_leaks z.table k qs)
          (λ leaks. points.on_got t m (points.with_formals z.table (length m.stack) sub.formals ps (points.with_frame z.table sub m)) (λ f. points.Goes (flat_begins leaks f)))
          (λ leaks. on_got u s (with_formals z.table (length m.stack) sub.formals qs (with_frame z.table sub s)) (begun_with u sub qs s n leaks))
          (out_gots z.table pointers hs here takes m k beside sub.formals ps qs all out)
          (λ leaks ls found same.
          subst (λ xs. Same there (points.on_got t m (points.with_formals z.table (length m.stack) sub.formals ps (points.with_frame z.table sub m)) (λ f. points.Goes (flat_begins leaks f)))
          (on_got u s (with_formals z.table (length m.stack) sub.formals qs (with_frame z.table sub s)) (begun_with u sub qs s n xs))) (sym same)
          (read_during handles here z more here takes m s during (λ f g. During hs now takes f g) there (points.with_formals z.table (length m.stack) sub.formals ps (points.with_frame z.table sub m))
          (with_formals z.table (length m.stack) sub.formals qs (with_frame z.table sub s)) (λ f. points.Goes (flat_begins leaks f)) (begun_with u sub qs s n leaks)
          (formals_gots z.table hs here (frame_kinds z.table sub) takes (length m.stack) sub.formals ps qs (points.with_frame z.table sub m) (with_frame z.table sub s) pushed (omega (arith, known)) all
          (subst (λ l. LooksFormals z.table l sub.formals now) known looks))
          (λ f g given both.
          settled_on handles here z more now takes f g both there (points.Goes (flat_begins leaks f)) (λ g. Goes (begins u sub qs s n leaks g)) (λ g beside. (more, begins_alike leaks f g beside, begins_back looks leaks f)))))

      by_room : (b : Bool) → Same there (flat_entered b) (slots_entered b (length m.stack))
      by_room true =
          settled_on handles here z more here takes m s during there (flat_entered true)
          (λ k. on_got u s (out_leaks z.table k qs) (λ leaks. on_got u s (with_formals z.table (length m.stack) sub.formals qs (with_frame z.table sub s)) (begun_with u sub qs s n leaks))) leaks_made
      by_room false = stops_during handles here z more here takes m s during there (Raises StorageError)

      entered_alike : Same there (points.entered t sub ps m n) (entered u sub n qs s)
      entered_alike =
          subst (λ x. Same there (points.entered t sub ps m n) (slots_entered (nat_le x stack_words) (length s.stack))) (sym words_same)
          (subst (λ l. Same there (points.entered t sub ps m n) (slots_entered (nat_le (frames_words (points.frame_of m sub [] ∷ z.f ∷ z.fs)) stack_words) l)) (sym long)
          (by_room (nat_le (frames_words (points.frame_of m sub [] ∷ z.f ∷ z.fs)) stack_words)))

  passing_made : (formals : List ℕ) (ks : List Kind) (x : Made (List Passed)) (y : Passing) (F : List Passed → Flat → points.Outcome) (G : List Passed → Slots → Outcome)
      → PassingAlike z.table handles here takes formals x y
      → ((ps : List Passed) (m : Flat) (qs : List Passed) (s : Slots) → x ≡ Done ps m → AreThere z.table handles here takes formals ps m qs s → Same ks (F ps m) (G qs s))
      → Same ks (points.on_made t x F) (on_passed u y G)
  passing_made formals ks (Done ps m) (Passes qs s) F G is on = on ps m qs s refl is
  passing_made formals ks (Done ps m) (Stopping x s) F G is on = subst (λ e. Same ks (F ps m) (halted u e s)) (sym is) (wants_alike z.table handles ks (F ps m))
  passing_made formals ks (Done ps m) Failing F G is on = absurd is
  passing_made formals ks (Halted x m) (Passes qs s) F G is on = silent_halts handles here z m ks x (G qs s) is
  passing_made formals ks (Halted x m) (Stopping y s) F G (inl e) on = silent_halts handles here z m ks x (halted u y s) e
  passing_made formals ks (Halted x m) (Stopping y s) F G (inr (inl e)) on =
      subst (λ w. Same ks (points.halted t x m) (halted u w s)) (sym e) (wants_alike z.table handles ks (points.halted t x m))
  passing_made formals ks (Halted x m) (Stopping y s) F G (inr (inr both)) on =
      subst (λ w. Same ks (points.halted t x m) (halted u w s)) both.0 (stops_during handles here z both.1.0 here takes m s both.1.1 ks x)
  passing_made formals ks (Halted x m) Failing F G is on = silent_halts handles here z m ks x Fails is
  passing_made formals ks Failed y F G is on = tt

  pub call_alike : HavePointers z.table → (sub : ℕ) (actuals : List Actual) (n : Option ℕ) (r : Outcome) → IsGoing n → LooksCall t here takes sub actuals → CallsSub u sub actuals n r
      → Same (led_kinds t (here ++ frame_kinds z.table (sub_at z.program sub)) n) (points.call t sub actuals n) r
  call_alike pointers sub actuals n r goes_on looks (g, passes, so) =
      let body : Sub = sub_at z.program sub in
      let ks : List Kind = led_kinds t (here ++ frame_kinds z.table body) n in
      subst (Same ks (points.call t sub actuals n)) (sym so)
      (passing_made body.formals ks (points.all_passed z.table actuals (points.start t)) g (λ ps m. points.entered t body ps m n) (entered u body n)
      (all_alike z.table here takes actuals body.formals handles (points.start t) (start u) g (start_during handles here z) looks.0 passes)
      (λ ps m qs s found is.
      entered_alike body n is.more ps qs m s is.during is.all goes_on pointers (looks.2 ps m found) looks.1))
