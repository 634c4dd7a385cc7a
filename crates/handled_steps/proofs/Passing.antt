-- Actuals that are passed, over both heaps.
use Rattle.std.proofs.Common.{◌≡◌, refl, sym, ap, ◌∙◌, subst, ℕ, arith, Bool, true, false, List, [], ◌∷◌, ◌++◌, append_assoc, append-nil, length, ℤ, if◌then◌else◌}
use mathlib.Core.Logic.{◌⊎◌, inl, inr}
use Rattle.handled_runs.specs.type_definitions.Types.{Table, full}
use Rattle.handled_runs.specs.run_values.declared.value.Kind.{Kind}
use Rattle.handled_runs.specs.run_codes.Codes.{Place, Actual, ByValue, From, To}
use Rattle.handled_runs.specs.run_codes.Flat.{Flat, Got, Given, Stops, Broken, Stop, Raises, Traps, Memory, Made, Done, Halted, Failed, made_then, constraint, kinds, filled, Spot, InStack, InCell}
use Rattle.handled_runs.specs.run_codes.Flat as flat
use Rattle.handled_runs.specs.run_codes.Points.{Passed, Value, FromSpot, ToSpot, fits}
use Rattle.handled_runs.specs.run_codes.Points as points
use Rattle.handled_runs.specs.Slots.{Slots}
use Rattle.handled_runs.specs.Slots as slots
use Rattle.handled_runs.specs.Values as values
use Rattle.handled_runs.specs.Values.{Fills}
use Rattle.handled_runs.specs.Beside.{IsSilent, GotsAlike, spot_renamed, NamesSpot}
use Rattle.handled_runs.specs.Looks.{LooksAt}
use Rattle.handled_runs.specs.Alike.{AreAlike, StandAt, Wherever, LooksThere}
use Rattle.handled_runs.specs.Marks.{Stands, During}
use Rattle.handled_runs.proofs.Cells.{words_on, names_on}
use Rattle.handled_runs.proofs.There.{AreRenamed}
use Rattle.handled_runs.proofs.Unmarked.{spot_same}
use Rattle.handled_runs.proofs.Bases.{filled_base, filled_long}
use Rattle.handled_runs.proofs.Copies.{spots_alike, helds_alike}
use Rattle.handled_runs.proofs.Filled.{fill_alike}
use Rattle.handled_steps.specs.Steps.{Passing, Passes, Stopping, Failing, on_read, passed_value, from_spot, PassesOne, with_first, Following, PassesAll}
use Rattle.handled_steps.specs.Backs.{FitsOf}
use Rattle.handled_steps.specs.Looks.{LooksActual, LooksActuals}
use Rattle.handled_steps.proofs.Pairs.{spot_on, spot_named_on}
use Rattle.handled_steps.proofs.Gots.{spot_named}
use Rattle.handled_steps.proofs.Moving.{fits_same}

-- ---- what is known of actuals

abbrev pub SameSpot : List ℕ → Spot → Spot → Type 0
SameSpot handles q r = (r ≡ spot_renamed handles q) × NamesSpot (length handles) q

-- Words of the types stand at the spots.
abbrev pub PassedAlike : Table → List ℕ → List Kind → ℕ → Passed → Passed → Type 0
PassedAlike table handles here formal (Value zs) (Value us) = AreRenamed handles (kinds table formal) zs us
PassedAlike table handles here formal (FromSpot q of) (FromSpot r as_of) =
    SameSpot handles q r × (as_of ≡ of) × Stands here q (kinds table of) × (kinds table of ≡ kinds table formal) × FitsOf (full table of) (kinds table of)
PassedAlike table handles here formal (ToSpot q of at) (ToSpot r as_of as_at) =
    SameSpot handles q r × (as_of ≡ of) × (as_at ≡ at) × Stands here q (kinds table of) × (kinds table of ≡ kinds table formal) × FitsOf (full table of) (kinds table of)
PassedAlike table handles here formal _ _ = ⊥

abbrev pub AllPassed : Table → List ℕ → List Kind → List ℕ → List Passed → List Passed → Type 0
AllPassed table handles here formals [] [] = Unit {0}
AllPassed table handles here (f ∷ formals) (p ∷ ps) (q ∷ qs) = PassedAlike table handles here f p q × AllPassed table handles here formals ps qs
AllPassed table handles here formals _ _ = ⊥

pub record AreThere (table : Table) (handles : List ℕ) (here taken : List Kind) (formals : List ℕ) (ps : List Passed) (m : Flat) (qs : List Passed) (s : Slots) : Type 0 where
  pub more : List ℕ
  pub all : AllPassed table (handles ++ more) here formals ps qs
  pub during : During (handles ++ more) here taken m s

abbrev pub StopsAlike : List ℕ → List Kind → List Kind → Stop → Flat → Passing → Type 0
StopsAlike handles here taken x m (Passes qs s) = IsSilent x
StopsAlike handles here taken x m (Stopping y s) = IsSilent x ⊎ ((y ≡ Memory) ⊎ ((x ≡ y) × ((more : List ℕ) × During (handles ++ more) here taken m s)))
StopsAlike handles here taken x m Failing = IsSilent x

abbrev pub PassingAlike : Table → List ℕ → List Kind → List Kind → List ℕ → Made (List Passed) → Passing → Type 0
PassingAlike table handles here taken formals (Done ps m) (Passes qs s) = AreThere table handles here taken formals ps m qs s
PassingAlike table handles here taken formals (Done ps m) (Stopping x s) = x ≡ Memory
PassingAlike table handles here taken formals (Done ps m) Failing = ⊥
PassingAlike table handles here taken formals (Halted x m) r = StopsAlike handles here taken x m r
PassingAlike table handles here taken formals Failed r = Unit {0}

-- ---- more handles

module _ (table : Table) (handles added : List ℕ) (here : List Kind) where
  spot_same_on : (q r : Spot) → SameSpot handles q r → SameSpot (handles ++ added) q r
  spot_same_on q r is = (is.0 ∙ spot_on handles added q is.1, spot_named_on handles added q is.1)

  passed_on : (f : ℕ) (p q : Passed) → PassedAlike table handles here f p q → PassedAlike table (handles ++ added) here f p q
  passed_on f (Value zs) (Value us) is = record {
    words = is.words ∙ words_on handles added (kinds table f) zs is.names;
    known = is.known;
    names = names_on handles added (kinds table f) zs is.names;
    kept = is.kept;
  }
  passed_on f (Value zs) (FromSpot r o) is = absurd is
  passed_on f (Value zs) (ToSpot r o a) is = absurd is
  passed_on f (FromSpot q of) (Value us) is = absurd is
  passed_on f (FromSpot q of) (FromSpot r o) is = (spot_same_on q r is.0, is.1, is.2, is.3, is.4)
  passed_on f (FromSpot q of) (ToSpot r o a) is = absurd is
  passed_on f (ToSpot q of at) (Value us) is = absurd is
  passed_on f (ToSpot q of at) (FromSpot r o) is = absurd is
  passed_on f (ToSpot q of at) (ToSpot r o a) is = (spot_same_on q r is.0, is.1, is.2, is.3, is.4, is.5)

module _ (table : Table) (handles : List ℕ) (here taken : List Kind) where
  stops_on : (more : List ℕ) (x : Stop) (m : Flat) (r : Passing) → StopsAlike (handles ++ more) here taken x m r → StopsAlike handles here taken x m r
  stops_on more x m (Passes qs s) is = is
  stops_on more x m Failing is = is
  stops_on more x m (Stopping y s) (inl e) = inl e
  stops_on more x m (Stopping y s) (inr (inl e)) = inr (inl e)
  stops_on more x m (Stopping y s) (inr (inr both)) = inr (inr (both.0, (more ++ both.1.0, subst (λ hs. During hs here taken m s) (append_assoc handles more both.1.0) both.1.1)))

  passing_on : (more formals : List ℕ) (x : Made (List Passed)) (r : Passing) → PassingAlike table (handles ++ more) here taken formals x r → PassingAlike table handles here taken formals x r
  passing_on more formals (Done ps m) (Passes qs s) is =
      let same : handles ++ more ++ is.more ≡ handles ++ (more ++ is.more) = append_assoc handles more is.more in record {
        more = more ++ is.more;
        all = subst (λ hs. AllPassed table hs here formals ps qs) same is.all;
        during = subst (λ hs. During hs here taken m s) same is.during;
      }
  passing_on more formals (Done ps m) (Stopping x s) is = is
  passing_on more formals (Done ps m) Failing is = is
  passing_on more formals (Halted x m) r is = stops_on more x m r is
  passing_on more formals Failed r is = tt

  -- ---- one more

  first_stops : (x : Stop) (m : Flat) (first : List Passed) (r : Passing) → StopsAlike handles here taken x m r → StopsAlike handles here taken x m (with_first first r)
  first_stops x m first (Passes qs s) is = is
  first_stops x m first (Stopping y s) is = is
  first_stops x m first Failing is = is

  first_alike : (f : ℕ) (formals : List ℕ) (p q : Passed) (x : Made (List Passed)) (r : Passing) → PassedAlike table handles here f p q → PassingAlike table handles here taken formals x r
      → PassingAlike table handles here taken (f ∷ formals) (made_then x (λ more. Done (p ∷ more))) (with_first (q ∷ []) r)
  first_alike f formals p q (Done ps m) (Passes qs s) one is = record { more = is.more; all = (passed_on table handles is.more here f p q one, is.all); during = is.during }
  first_alike f formals p q (Done ps m) (Stopping x s) one is = is
  first_alike f formals p q (Done ps m) Failing one is = is
  first_alike f formals p q (Halted x m) r one is = first_stops x m (q ∷ []) r is
  first_alike f formals p q Failed r one is = tt

abbrev ones : Made Passed → Made (List Passed)
ones x = made_then x (λ p. Done (p ∷ []))

-- ---- one actual

module _ (table : Table) (handles : List ℕ) (here taken : List Kind) (m : Flat) (s : Slots) (during : During handles here taken m s) where
  abbrev One : ℕ → Made Passed → Passing → Type 0
  One formal x r = PassingAlike table handles here taken (formal ∷ []) (ones x) r

  stop : (x : Stop) → StopsAlike handles here taken x m (Stopping x s)
  stop x = inr (inr (refl, ([], subst (λ hs. During hs here taken m s) (sym (append-nil handles)) during)))

  value_alike : (formal : ℕ) (x : Made (List ℤ)) (g : values.Outcome) → AreAlike handles here taken (kinds table formal) x g → One formal (made_then x (λ zs. Done (Value zs))) (passed_value g)
  value_alike formal (Done zs n) (values.Gives us t) is = record { more = is.more; all = (record { words = is.words; known = is.known; names = is.names; kept = is.kept }, tt); during = is.during }
  value_alike formal (Done zs n) (values.Ends x t) is = is
  value_alike formal (Done zs n) values.Fails is = is
  value_alike formal (Halted x n) (values.Gives us t) is = is
  value_alike formal (Halted x n) (values.Ends y t) is = is
  value_alike formal (Halted x n) values.Fails is = is
  value_alike formal Failed g is = tt

  silent : (x : Stop) (r : Passing) → IsSilent x → StopsAlike handles here taken x m r
  silent x (Passes qs i) e = e
  silent x (Stopping y i) e = inl e
  silent x Failing e = e

  -- after what is only read
  read_alike : {A B : Type 0} (R : A → B → Type 0) (formal : ℕ) (x : Got A) (y : Got B) (F : A → Made Passed) (G : B → Passing) → GotsAlike R x y
      → ((a : A) (b : B) → x ≡ Given a → R a b → One formal (F a) (G b)) → One formal (flat.reads m x F) (on_read s y G)
  read_alike R formal (Given a) (Given b) F G is on = on a b refl is
  read_alike R formal (Given a) (Stops y) F G is on = absurd is
  read_alike R formal (Given a) Broken F G is on = absurd is
  read_alike R formal (Stops (Raises e)) y F G is on = subst (λ g. One formal (Halted (Raises e) m) (on_read s g G)) (sym is) (stop (Raises e))
  read_alike R formal (Stops (Traps e)) y F G is on = silent (Traps e) (on_read s y G) tt
  read_alike R formal (Stops Memory) y F G is on = subst (λ g. One formal (Halted Memory m) (on_read s g G)) (sym is) (stop Memory)
  read_alike R formal Broken y F G is on = tt

  there_passed : (formal : ℕ) (p q : Passed) → PassedAlike table handles here formal p q → One formal (Done p m) (Passes (q ∷ []) s)
  there_passed formal p q is = record {
    more = [];
    all = subst (λ hs. AllPassed table hs here (formal ∷ []) (p ∷ []) (q ∷ [])) (sym (append-nil handles)) (is, tt);
    during = subst (λ hs. During hs here taken m s) (sym (append-nil handles)) during;
  }

  stands : (q : Spot) (ks : List Kind) → StandAt m here q ks → Stands here q ks
  stands (InStack n) ks stand =
      let less = stand.1 in
      let known = during.unmarked.known in
      (stand.0, omega (arith, less, known))
  stands (InCell n o) ks stand = tt

  spot_known : (p : Place) (q : Spot) → Wherever m.base (λ x. LooksAt x here taken p) → flat.spot m p ≡ Given q → NamesSpot (length handles) q
  spot_known p q looks found =
      spot_named handles here taken during.whole s during.beside p q (spot_same here taken during.whole m during.unmarked during.kept p (looks m refl) ∙ found)

  from_alike : (formal of within : ℕ) (q : Spot) → NamesSpot (length handles) q → StandAt m here q (kinds table of) → FitsOf (full table within) (kinds table of) → kinds table of ≡ kinds table formal → FitsOf (full table of) (kinds table of)
      → One formal (flat.reads m (flat.held m q (kinds table of)) (λ zs. if fits table within zs then Done (FromSpot q of) m else Halted constraint m)) (from_spot table of within s (spot_renamed handles q))
  from_alike formal of within q names stand fit same back =
      read_alike (AreRenamed handles (kinds table of)) formal (flat.held m q (kinds table of)) (slots.held s (spot_renamed handles q) (kinds table of))
      (λ zs. if fits table within zs then Done (FromSpot q of) m else Halted constraint m) (λ us. if fits table within us then Passes (FromSpot (spot_renamed handles q) of ∷ []) s else Stopping constraint s)
      (helds_alike handles here taken m s during q (kinds table of) stand)
      (λ zs us found is.
      subst (λ b. One formal (if fits table within zs then Done (FromSpot q of) m else Halted constraint m) (if b then Passes (FromSpot (spot_renamed handles q) of ∷ []) s else Stopping constraint s))
      (sym (ap (fits table within) is.words ∙ fits_same handles table within (kinds table of) zs fit is.known)) (by (fits table within zs)))
    where
      by : (b : Bool) → One formal (if b then Done (FromSpot q of) m else Halted constraint m) (if b then Passes (FromSpot (spot_renamed handles q) of ∷ []) s else Stopping constraint s)
      by true = there_passed formal (FromSpot q of) (FromSpot (spot_renamed handles q) of) ((refl, names), refl, stands q (kinds table of) stand, same, back)
      by false = stop constraint

  there : (p : Place) (ks : List Kind) → LooksThere m.base here taken p ks → Wherever m.base (λ x. LooksAt x here taken p)
  there p ks looks x e = (looks x e).0

  pub one_alike : (formal : ℕ) (a : Actual) (r : Passing) → LooksActual table m.base here taken formal a → PassesOne table a s r → One formal (points.passed table a m) r
  one_alike formal (ByValue v) r looks (g, fills, so) =
      subst (One formal (points.passed table (ByValue v) m)) (sym so)
      (value_alike formal (filled table v m) g (fill_alike table v (kinds table formal) handles here taken m s g during looks fills))
  one_alike formal (From p of within) r looks so =
      subst (One formal (points.passed table (From p of within) m)) (sym so)
      (read_alike (λ q w. w ≡ spot_renamed handles q) formal (flat.spot m p) (slots.spot s p)
      (λ q. flat.reads m (flat.held m q (kinds table of)) (λ zs. if fits table within zs then Done (FromSpot q of) m else Halted constraint m)) (from_spot table of within s)
      (spots_alike handles here taken m s during p (there p (kinds table of) looks.0))
      (λ q w found same.
      subst (λ x. One formal (flat.reads m (flat.held m q (kinds table of)) (λ zs. if fits table within zs then Done (FromSpot q of) m else Halted constraint m)) (from_spot table of within s x)) (sym same)
      (from_alike formal of within q (spot_known p q (there p (kinds table of) looks.0) found) ((looks.0 m refl).1 q found) looks.1 looks.2 looks.3)))
  one_alike formal (To p of at) r looks so =
      subst (One formal (points.passed table (To p of at) m)) (sym so)
      (read_alike (λ q w. w ≡ spot_renamed handles q) formal (flat.spot m p) (slots.spot s p) (λ q. Done (ToSpot q of at) m) (λ w. Passes (ToSpot w of at ∷ []) s)
      (spots_alike handles here taken m s during p (there p (kinds table of) looks.0))
      (λ q w found same.
      there_passed formal (ToSpot q of at) (ToSpot w of at)
      ((same, spot_known p q (there p (kinds table of) looks.0) found), refl, refl, stands q (kinds table of) ((looks.0 m refl).1 q found), looks.1, looks.2)))

-- ---- they leave the frame where it is, and the stack as long as it is

abbrev AsLong : Flat → Flat → Type 0
AsLong m n = (n.base ≡ m.base) × (length n.stack ≡ length m.stack)

as_long : (m n : Flat) → m ≡ n → AsLong m n
as_long m n same = (ap (λ (y : Flat). y.base) (sym same), ap (λ (y : Flat). length y.stack) (sym same))

passed_base : (table : Table) (a : Actual) (m : Flat) (p : Passed) (n : Flat) → points.passed table a m ≡ Done p n → AsLong m n
passed_base table (ByValue v) m p n e = by (filled table v m) refl e
  where
    by : (x : Made (List ℤ)) → filled table v m ≡ x → made_then x (λ zs. Done (Value zs)) ≡ Done p n → AsLong m n
    by (Done zs i) found f = subst (AsLong m) (let same : i ≡ n = cc in same) (filled_base table v m zs i found, filled_long table v m zs i found)
    by (Halted x i) found f = cc
    by Failed found f = cc
passed_base table (From q of within) m p n e = by (flat.spot m q) e
  where
    fitting : (b : Bool) (s : Spot) → (if b then Done (FromSpot s of) m else Halted constraint m) ≡ Done p n → AsLong m n
    fitting true s f = as_long m n (let same : m ≡ n = cc in same)
    fitting false s f = cc

    held_by : (s : Spot) (g : Got (List ℤ)) → flat.reads m g (λ zs. if fits table within zs then Done (FromSpot s of) m else Halted constraint m) ≡ Done p n → AsLong m n
    held_by s (Given zs) f = fitting (fits table within zs) s f
    held_by s (Stops x) f = cc
    held_by s Broken f = cc

    by : (g : Got Spot) → flat.reads m g (λ s. flat.reads m (flat.held m s (kinds table of)) (λ zs. if fits table within zs then Done (FromSpot s of) m else Halted constraint m)) ≡ Done p n → AsLong m n
    by (Given s) f = held_by s (flat.held m s (kinds table of)) f
    by (Stops x) f = cc
    by Broken f = cc
passed_base table (To q of at) m p n e = by (flat.spot m q) e
  where
    by : (g : Got Spot) → flat.reads m g (λ s. Done (ToSpot s of at) m) ≡ Done p n → AsLong m n
    by (Given s) f = as_long m n (let same : m ≡ n = cc in same)
    by (Stops x) f = cc
    by Broken f = cc

-- ---- all of them

abbrev then_rest : Table → List Actual → Made Passed → Made (List Passed)
then_rest table rest x = made_then x (λ p n. made_then (points.all_passed table rest n) (λ more. Done (p ∷ more)))

module _ (table : Table) (handles : List ℕ) (here taken : List Kind) where
  memory_passing : (formals : List ℕ) (x : Made (List Passed)) (y : Stop) (s : Slots) → y ≡ Memory → PassingAlike table handles here taken formals x (Stopping y s)
  memory_passing formals (Done ps m) y s e = e
  memory_passing formals (Halted x m) y s e = inr (inl e)
  memory_passing formals Failed y s e = tt

  memory_stops : (x : Stop) (m : Flat) (r : Passing) → IsSilent x → StopsAlike handles here taken x m r
  memory_stops x m (Passes qs s) e = e
  memory_stops x m (Stopping y s) e = inl e
  memory_stops x m Failing e = e

  stops_following : (x : Stop) (m : Flat) (g r : Passing) (P : Slots → Passing → Type 0) → Following g P r → StopsAlike handles here taken x m g → StopsAlike handles here taken x m r
  stops_following x m (Passes qs s) r P so is = memory_stops x m r is
  stops_following x m (Stopping y s) r P so is = subst (StopsAlike handles here taken x m) (sym so) is
  stops_following x m Failing r P so is = memory_stops x m r is

module _ (table : Table) (here taken : List Kind) where
  pub all_alike : (actuals : List Actual) (formals : List ℕ) (handles : List ℕ) (m : Flat) (s : Slots) (r : Passing) → During handles here taken m s
      → LooksActuals table m.base here taken formals actuals → PassesAll table actuals s r → PassingAlike table handles here taken formals (points.all_passed table actuals m) r
  all_alike [] formals handles m s r during looks so =
      subst (PassingAlike table handles here taken formals (Done [] m)) (sym so)
      (record { more = []; all = tt; during = subst (λ hs. During hs here taken m s) (sym (append-nil handles)) during })
  all_alike (a ∷ rest) [] handles m s r during looks so = absurd looks
  all_alike (a ∷ rest) (f ∷ formals) handles m s r during looks (g, one, so) =
      by (points.passed table a m) g refl (one_alike table handles here taken m s during f a g looks.0 one) so
      (λ p n hs t q e near passes. all_alike rest formals hs n t q near (subst (λ b. LooksActuals table b here taken formals rest) (sym (passed_base table a m p n e).0) looks.1) passes)
    where
      by : (x : Made Passed) (g : Passing) → points.passed table a m ≡ x → PassingAlike table handles here taken (f ∷ []) (ones x) g → Following g (PassesAll table rest) r
          → ((p : Passed) (n : Flat) (hs : List ℕ) (t : Slots) (q : Passing) → points.passed table a m ≡ Done p n → During hs here taken n t → PassesAll table rest t q
          → PassingAlike table hs here taken formals (points.all_passed table rest n) q)
          → PassingAlike table handles here taken (f ∷ formals) (then_rest table rest x) r
      by (Done p n) (Passes [] t) e is so on = absurd is.all
      by (Done p n) (Passes (q ∷ []) t) e is (g, passes, so) on =
          subst (PassingAlike table handles here taken (f ∷ formals) (then_rest table rest (Done p n))) (sym so)
          (passing_on table handles here taken is.more (f ∷ formals) (then_rest table rest (Done p n)) (with_first (q ∷ []) g)
          (first_alike table (handles ++ is.more) here taken f formals p q (points.all_passed table rest n) g is.all.0 (on p n (handles ++ is.more) t g e is.during passes)))
      by (Done p n) (Passes (q ∷ w ∷ others) t) e is so on = absurd is.all.1
      by (Done p n) (Stopping x t) e is so on =
          subst (PassingAlike table handles here taken (f ∷ formals) (then_rest table rest (Done p n))) (sym so) (memory_passing table handles here taken (f ∷ formals) (then_rest table rest (Done p n)) x t is)
      by (Done p n) Failing e is so on = absurd is
      by (Halted x n) g e is so on = stops_following table handles here taken x n g r (PassesAll table rest) so is
      by Failed g e is so on = tt

pub all_passed_long : (table : Table) (actuals : List Actual) (m : Flat) (ps : List Passed) (n : Flat) → points.all_passed table actuals m ≡ Done ps n → length n.stack ≡ length m.stack
all_passed_long table [] m ps n e = (as_long m n (let same : m ≡ n = cc in same)).1
all_passed_long table (a ∷ rest) m ps n e = by (points.passed table a m) refl e (λ k us f. all_passed_long table rest k us n f)
  where
    then_all : (p : Passed) (x : Made (List Passed)) → made_then x (λ more. Done (p ∷ more)) ≡ Done ps n → (us : List Passed) × (x ≡ Done us n)
    then_all p (Done us k) f = (us, ap (Done us) (let same : k ≡ n = cc in same))
    then_all p (Halted x k) f = cc
    then_all p Failed f = cc

    by : (x : Made Passed) → points.passed table a m ≡ x → then_rest table rest x ≡ Done ps n → ((k : Flat) (us : List Passed) → points.all_passed table rest k ≡ Done us n → length n.stack ≡ length k.stack)
        → length n.stack ≡ length m.stack
    by (Done p k) found f on =
        let more = then_all p (points.all_passed table rest k) f in
        on k more.0 more.1 ∙ (passed_base table a m p k found).1
    by (Halted x k) found f on = cc
    by Failed found f on = cc
