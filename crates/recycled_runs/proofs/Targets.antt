-- What leak checks of assignments, of `out` actuals and of releases tell of is there.
use Rattle.std.proofs.Common.{◌≡◌, refl, sym, ap, ◌∙◌, subst, inl, inr, ◌⊎◌, ℕ, zero, suc, ◌+◌, ◌<◌, arith, Bool, true, false, not, ◌==◌, List, [], ◌∷◌, map, take, drop, length, get_or, slice_get, Option, Some, None, ℤ, pos, negsuc, if◌then◌else◌}
use Rattle.std.specs.Prelude.{option_and_then}
use Rattle.std.proofs.lemmas.List.{length-map}
use Rattle.std.proofs.lemmas.Bool.{true≢false, false≢true}
use Rattle.machine.specs.spark_base.Lists.{Has}
use Rattle.machine.specs.spark_base.declared.position.Pos.{Pos}
use Rattle.machine.specs.place_names.declared.act.Mode.TheVariants as mode
use Rattle.machine.specs.type_definitions.declared.table.Shape.{Shape}
use Rattle.machine.specs.type_definitions.declared.table.Shape.TheVariants as shape
use Rattle.machine.specs.type_definitions.Types.{Table, shape_of, full, is_scalar, is_owning}
use Rattle.kept_cells.specs.run_values.declared.value.Kind.{Kind}
use Rattle.kept_cells.specs.run_values.declared.value.Kind.TheVariants as sort
use Rattle.machine.specs.typed_tree.Trees.{TypedTree, Name, NoMore, More}
use Rattle.machine.specs.flow_paths.Names.{waiting}
use Rattle.machine.specs.flow_paths.Objects.{Typing, Passing, ByValue, Traversed, object_at, sub_at, passings}
use Rattle.machine.specs.flow_paths.Objects as objects
use Rattle.machine.specs.flow_paths.Points.{FlowPoint}
use Rattle.machine.specs.flow_paths.Laid.{FlowProgram, flow_typing}
use Rattle.soundness.specs.PartOffsets.Parts.{IsSettled}
use Rattle.soundness.proofs.PartOffsets.Leaves.{leaf_from}
use Rattle.soundness.specs.OwnedWays.Ways.{Owned}
use Rattle.soundness.specs.OwnedWays.Ways as ways
use Rattle.soundness.specs.Seen.{is_view_formal, content}
use Rattle.soundness.specs.Typed.{Kept, Spot}
use Rattle.soundness.specs.Sound.{view_of}
use Rattle.soundness.proofs.Steps.{no_leaf}
use Rattle.soundness.specs.TypedLaws.Needed.{Leads}
use Rattle.machine.specs.Words.{Word, Cell, access_offsets}
use Rattle.machine.specs.Typed.{Pointer, sorts}
use Rattle.machine.specs.Owners.{waiting_in}
use Rattle.machine.specs.Memory.{HeapCell, cell, words_of}
use Rattle.machine.specs.Evaluate.{Use, AsView, cell_place, place_of}
use Rattle.machine.specs.States as machine
use Rattle.recycled_runs.specs.ViewedFacts.NullPlaces.Agrees.{SameState}
use Rattle.recycled_runs.proofs.ViewedFacts.NullPlaces.Memories.{cell_agree}
use Rattle.kept_cells.specs.Cells.{Cell as StoredCell}
use Rattle.run_codes.specs.Codes.{Place, Fill, Checked, Pointer as LookedAt, Does, Point, Actual, From, To, InFrame, InPackages, Behind, Number}
use Rattle.run_codes.specs.Codes as codes
use Rattle.run_codes.specs.Flat.{Flat, Got, Given, Stops, Broken, Made, Done, kinds, kind_of, is_word, touched, front_of_cell, are_in, words_in, and_then, Spot as FlatSpot, InCell, spot, words_at, all_fresh, filled}
use Rattle.run_codes.specs.Flat as flat
use Rattle.run_codes.specs.Lowered.{Site, Placed, option_map, one_type, object_place, led, place, value}
use Rattle.run_codes.specs.Programs.{Program, Around, going, on_going, on_next, use_for, is_scalar_shape, name_pos, put_at, stored_at, actual, actuals, with_first, assigned, called, release_at, with_takes}
use Rattle.run_codes.specs.Points.{Frame, State, Turn, start, are_taken, Passed, Value, FromSpot, ToSpot, passed, all_passed, fits}
use Rattle.run_codes.specs.Related.{types, AllStand, IsValue, Seen, now, SpotSame}
use Rattle.run_codes.specs.Related.{here as here_of}
use Rattle.run_codes.proofs.Expressions.{and_then_some, map_some}
use Rattle.run_codes.proofs.Places.{impossible, if_some, if_none, some_same}
use Rattle.run_codes.proofs.Held.{is_held}
use Rattle.run_points.specs.States.{site_of, StateStands, FramesStand, Runs}
use Rattle.run_points.specs.Turns.{HasTypes, around_sub}
use Rattle.handled_runs.specs.Looks.{IsClear}
use Rattle.handled_runs.specs.Alike.{LooksThere}
use Rattle.handled_runs.specs.Leaks.{AreLeaked}
use Rattle.handled_runs.specs.Released.{IsOwner}
use Rattle.handled_runs.proofs.Gots.{there_of}
use Rattle.handled_steps.specs.Looks.{LeaksAt, LooksOut, LooksActuals, taken_kinds, turn_of}
use Rattle.handled_kinds.specs.Kinds.{HasKinds}
use Rattle.handled_kinds.specs.Turns.{LeaksThere}
use Rattle.handled_kinds.proofs.Filled.{named_at, value_fine}
use Rattle.handled_kinds.proofs.Places.{looks_there}
use Rattle.handled_kinds.proofs.Calls.{actuals_look}
use Rattle.recycled_runs.proofs.Clear.{NoneGone, clear_start}
use Rattle.recycled_runs.proofs.Keeps.{IsNull, kept_null}
use Rattle.recycled_runs.proofs.Walks.{GoesThrough, place_found, cell_spot}
use Rattle.recycled_runs.proofs.Parts.{part_leaked}
use Rattle.recycled_runs.proofs.Growing.{Grown, grown_first, base_same, fill_grows, passed_grows, got_done, made_done}
use Rattle.recycled_runs.proofs.Later.{spot_back, leaked_then}
use Rattle.recycled_runs.proofs.Found.{Safe, below_length, seen_of, spots, safe}
use Rattle.recycled_runs.proofs.Parted.{is_given, is_made, given_values, made_values, made_memories}

-- ---- what is asked of names

-- A name of a place that is rooted in what owns, or goes through an access value; or of a scalar type.
abbrev pub IsOwnName : Typing → TypedTree → Type 0
IsOwnName s (Name p y path u) = Leads s (object_at s y).of path u × ((is_view_formal s y ≡ false) ⊎ GoesThrough path)
IsOwnName s e = ⊥

abbrev pub IsNameOf : Typing → TypedTree → Type 0
IsNameOf s (Name p y path u) = Leads s (object_at s y).of path u
IsNameOf s e = ⊥

abbrev pub IsScalarName : Typing → TypedTree → Type 0
IsScalarName s (Name p y path u) = is_scalar (full s.table u) ≡ true
IsScalarName s e = ⊥

-- So are the actuals of mode `out`.
abbrev pub IsOwnActual : Typing → Passing → TypedTree → Type 0
IsOwnActual s (objects.Place mode.Out owning access) e = IsOwnName s e ⊎ IsScalarName s e
IsOwnActual s way e = Unit {0}

abbrev pub AreOwnActuals : Typing → List Passing → TypedTree → Type 0
AreOwnActuals s (way ∷ ways) (More e rest) = IsOwnActual s way e × AreOwnActuals s ways rest
AreOwnActuals s ways e = Unit {0}

-- ---- types without access parts

none_leaked : (cells : List StoredCell) (us : List ℤ) (offsets : List ℕ) → ((o : ℕ) → Has offsets o → ⊥) → AreLeaked cells us offsets
none_leaked cells us [] none = tt
none_leaked cells us (o ∷ offsets) none = absurd (none o (inl refl))

scalar_none : (table : Table) → IsSettled table → (t : ℕ) → is_scalar (full table t) ≡ true → (o : ℕ) → Has (access_offsets table t) o → ⊥
scalar_none table settled t scalar o has =
    let leaf = leaf_from table settled t o has in
    let no : true ≡ false = sym leaf.1 ∙ no_leaf table settled t scalar leaf.0 in absurd (true≢false no)

-- The type of a name is that of its place.
named_type : (c : Site) (k y u : ℕ) (path : TypedTree) (name : Pos) (r : Placed) → place c k (Name name y path u) ≡ Some r → r.of ≡ u
named_type c k y u path name r is =
    let first = and_then_some (λ (q : Placed). if q.of == u then Some q else None) (option_and_then (λ q. led c k q path) (object_place c y)) r is in
    let sure = if_some (first.0.of == u) (Some first.0) r first.2 in
    ap (λ (q : Placed). q.of) (sym (some_same first.0 r sure.1)) ∙ same_number first.0.of u sure.0
  where
    same_number : (a b : ℕ) → (a == b) ≡ true → a ≡ b
    same_number a b e = grind arith

front_get : (ks : List Kind) (ws zs : List ℤ) (o : ℕ) → flat.front ks ws ≡ Given zs → o < length ks → get_or ws o (pos 0) ≡ get_or zs o (pos 0)
front_get [] ws zs o e less = absurd (omega (arith, less))
front_get (k ∷ ks) [] zs o e less = absurd (false≢true (ap is_given e))
front_get (k ∷ ks) (w ∷ ws) zs o e less = by (is_word k w) (flat.front ks ws) e (λ more i found less. front_get ks ws more i found less) o less
  where
    by : (b : Bool) (g : Got (List ℤ)) → (if b then and_then g (λ more. Given (w ∷ more)) else Broken) ≡ Given zs
        → ((more : List ℤ) (i : ℕ) → g ≡ Given more → i < length ks → get_or ws i (pos 0) ≡ get_or more i (pos 0)) → (o : ℕ) → o < suc (length ks) → get_or (w ∷ ws) o (pos 0) ≡ get_or zs o (pos 0)
    by true (Given more) f on zero less = let same : w ∷ more ≡ zs = given_values f in ap (λ l. get_or l 0 (pos 0)) same
    by true (Given more) f on (suc o) less = let same : w ∷ more ≡ zs = given_values f in on more o refl (omega (arith, less)) ∙ ap (λ l. get_or l (suc o) (pos 0)) same
    by true (Stops x) f on o less = absurd (false≢true (ap is_given f))
    by true Broken f on o less = absurd (false≢true (ap is_given f))
    by false g f on o less = absurd (false≢true (ap is_given f))

module _ (program : FlowProgram) (has : HasTypes program) (settled : IsSettled (flow_typing program).table) (p : Program) (input : List ℕ)
    (s t : machine.State) (g : State) (owned : Owned (view_of (flow_typing program) s)) (kept : Kept (flow_typing program) s.memory (waiting_in s)) (same : SameState s t)
    (null : IsNull (flow_typing program) t.memory) (stands : StateStands program t g)
    (m : machine.Frame) (fs : List machine.Frame) (f : Frame) (outer : List Frame) (frames : t.frames ≡ m ∷ fs)
    (stand : FramesStand program stands.laid (types t.memory) g.memory.stack (m ∷ fs) (f ∷ outer)) (runs : Runs program m)
    (fp : FlowPoint) (q : Point) (taken : are_taken (turn_of (flow_typing program).table p input g f outer q) ≡ true)
    (here : List Kind) (known : length here ≡ length g.memory.stack) (none : NoneGone here g.memory)
    (kinds_there : HasKinds (site_of program m.sub q.takes) f.base here (taken_kinds (turn_of (flow_typing program).table p input g f outer q))) where
  abbrev typed : Typing
  typed = flow_typing program

  abbrev table : Table
  table = typed.table

  abbrev turn : Turn
  turn = turn_of table p input g f outer q

  abbrev took : List Kind
  took = taken_kinds turn

  abbrev x : Flat
  x = start turn

  abbrev a : Around
  a = with_takes (around_sub program m.sub) q.takes

  abbrev c : Site
  c = site_of program m.sub q.takes

  clear : IsClear here took x
  clear = clear_start table p input g f outer q here (types t.memory) m.waits stand.0.waits none

  -- What is known of a place.
  abbrev SafePlace : Placed → Type 0
  SafePlace r = Safe program has settled p input s t g owned kept same null stands m fs f outer frames stand runs fp q taken r

  safe_name : (k y u : ℕ) (path : TypedTree) (name : Pos) (r : Placed) → place c k (Name name y path u) ≡ Some r → IsOwnName typed (Name name y path u) → SafePlace r
  safe_name k y u path name r lowers own = safe program has settled p input s t g owned kept same null stands m fs f outer frames stand runs fp q taken k y u path name r lowers own.0 own.1

  -- after values were moved and made
  leaked_after : (r : Placed) → SafePlace r → LooksThere f.base here took r.place (kinds table r.of) → (n k : Flat) → Grown table here took x n → Grown table here took x k → (w : FlatSpot) → spot n r.place ≡ Given w
      → LeaksAt table k w r.of
  leaked_after r is looks n k grown later w found us words =
      let back = spot_back table here took x clear.waits n grown r.place (looks n (base_same table here took x n grown)).0 is.given w found in
      let before = is.leaked w back in
      leaked_then table here took x clear.waits k later w (kinds table r.of) (access_offsets table r.of) before.0 ((looks x refl).1 w back) before.1 before.2 us words

  -- ---- assignments

  put_there : (sh : Shape) (r : Placed) (v : Fill) (checks : Option Pos) (n : Option ℕ) → LeaksThere turn (codes.Assign r.place v r.of checks n) → LeaksThere turn (put_at sh r v checks n)
  put_there sh r (Checked e low high) checks n is = by r.place
    where
      by : (place : Place) → LeaksThere turn (put_at sh (record { place = place; of = r.of }) (Checked e low high) checks n)
      by (InFrame at (Number (pos zero))) = tt
      by (InFrame at i) = tt
      by (InPackages at i) = tt
      by (Behind a at i) = tt
  put_there sh r (LookedAt e) None n is = by r.place
    where
      by : (place : Place) → LeaksThere turn (put_at sh (record { place = place; of = r.of }) (LookedAt e) None n)
      by (InFrame at (Number (pos zero))) = tt
      by (InFrame at i) = λ zs k done. tt
      by (InPackages at i) = λ zs k done. tt
      by (Behind a at i) = λ zs k done. tt
  put_there sh r (LookedAt e) (Some at) n is = is
  put_there sh r v checks n is = is

  pub assign_there : (y u : ℕ) (path e : TypedTree) (name : Pos) (d : Does) → IsOwnName typed (Name name y path u) → assigned a fp (Name name y path u) e ≡ Some d → LeaksThere turn d
  assign_there y u path e name d own is =
      let target : TypedTree = Name name y path u in
      let checks : Placed → Option Pos = (λ r. if is_owning table r.of then Some (name_pos fp.pos target) else None) in
      let stored : Placed → Fill → Option Does = (λ r v. on_going a fp (λ n. Some (stored_at table r v (checks r) n))) in
      let r = and_then_some (λ r. option_and_then (stored r) (value c 0 (use_for table r.of) r.of e)) (place c (waiting e) target) d is in
      let v = and_then_some (stored r.0) (value c 0 (use_for table r.0.of) r.0.of e) d r.2 in
      let n = and_then_some (λ n. Some (stored_at table r.0 v.0 (checks r.0) n)) (going a fp 0) d v.2 in
      subst (LeaksThere turn) (some_same (stored_at table r.0 v.0 (checks r.0) n.0) d n.2)
      (put_there (shape_of table r.0.of) r.0 v.0 (checks r.0) n.0 (there r.0 v.0 (checks r.0) n.0 r.1 v.1))
    where
      checked : (r : Placed) (v : Fill) → place c (waiting e) (Name name y path u) ≡ Some r → value c 0 (use_for table r.of) r.of e ≡ Some v → (zs : List ℤ) (k : Flat) → filled table v x ≡ Done zs k
          → (w : FlatSpot) → spot k r.place ≡ Given w → LeaksAt table k w r.of
      checked r v lowers gives zs k done w found =
          let looks = looks_there table f.base here took r.place r.of (named_at c has.laws here took f.base kinds_there (waiting e) y u path r lowers) in
          let grown = fill_grows table here took x v (kinds table r.of) x k zs (grown_first table here took x known clear)
          (value_fine c has.laws here took f.base kinds_there e 0 (use_for table r.of) r.of v gives) done in
          leaked_after r (safe_name (waiting e) y u path name r lowers own) looks k k grown grown w found

      there : (r : Placed) (v : Fill) (checks : Option Pos) (n : Option ℕ) → place c (waiting e) (Name name y path u) ≡ Some r → value c 0 (use_for table r.of) r.of e ≡ Some v
          → LeaksThere turn (codes.Assign r.place v r.of checks n)
      there r v None n lowers gives = λ zs k done. tt
      there r v (Some at) n lowers gives = λ zs k done. checked r v lowers gives zs k done

  -- ---- calls

  -- An actual of mode `out` has no access parts, or is a place of which all is known.
  abbrev SafeActual : Actual → Type 0
  SafeActual (To place of at) =
      ((o : ℕ) → Has (access_offsets table of) o → ⊥) ⊎ (SafePlace (record { place = place; of = of }) × LooksThere f.base here took place (kinds table of))
  SafeActual _ = Unit {0}

  abbrev SafeActuals : List Actual → Type 0
  SafeActuals [] = Unit {0}
  SafeActuals (b ∷ rest) = SafeActual b × SafeActuals rest

  -- What is known then of what is passed, in whichever memory that comes of the one that the step began with.
  abbrev LaterLeaks : Passed → Type 0
  LaterLeaks (ToSpot w of at) = (k : Flat) → Grown table here took x k → LeaksAt table k w of
  LaterLeaks _ = Unit {0}

  abbrev AllLater : List Passed → Type 0
  AllLater [] = Unit {0}
  AllLater (b ∷ rest) = LaterLeaks b × AllLater rest

  looks_out : (all : List Passed) (k : Flat) → Grown table here took x k → AllLater all → LooksOut table k all
  looks_out [] k grown later = tt
  looks_out (Value zs ∷ all) k grown later = looks_out all k grown later.1
  looks_out (FromSpot w of ∷ all) k grown later = looks_out all k grown later.1
  looks_out (ToSpot w of at ∷ all) k grown later = (later.0 k grown, looks_out all k grown later.1)

  one_later : (b : Actual) (n k : Flat) (o : Passed) → SafeActual b → Grown table here took x n → passed table b n ≡ Done o k → LaterLeaks o
  one_later (codes.ByValue v) n k o is grown e =
      let first = made_done (filled table v n) (λ zs. Done (Value zs)) o k e in
      subst LaterLeaks (done_first (Value first.0) o first.1 k first.3) tt
    where
      done_first : {A : Type 0} (a b : A) (i j : Flat) → Done a i ≡ Done b j → a ≡ b
      done_first a b i j e = made_values e
  one_later (From r of within) n k o is grown e =
      let after : FlatSpot → List ℤ → Made Passed = (λ w zs. if fits table within zs then Done (FromSpot w of) n else flat.Halted flat.constraint n) in
      let at = got_done n (spot n r) (λ w. flat.reads n (flat.held n w (kinds table of)) (after w)) o k e in
      let had = got_done n (flat.held n at.0 (kinds table of)) (after at.0) o k at.2 in
      by (fits table within had.0) at.0 had.2
    where
      by : (b : Bool) (w : FlatSpot) → (if b then Done (FromSpot w of) n else flat.Halted flat.constraint n) ≡ Done o k → LaterLeaks o
      by true w f = subst LaterLeaks (made_values f) tt
      by false w f = absurd (false≢true (ap is_made f))
  one_later (To r of at) n k o is grown e =
      let found = got_done n (spot n r) (λ w. Done (ToSpot w of at) n) o k e in
      subst LaterLeaks (made_values found.2)
      (λ i later. elim is [
        | inl parts ↦ λ us words. none_leaked i.cells us (access_offsets table of) parts
        | inr there ↦ leaked_after (record { place = r; of = of }) there.0 there.1 n i grown later found.0 found.1
      ])

  all_later : (formals : List ℕ) (all : List Actual) (n k : Flat) (out : List Passed) → LooksActuals table f.base here took formals all → SafeActuals all → Grown table here took x n
      → all_passed table all n ≡ Done out k → AllLater out × Grown table here took x k
  all_later formals [] n k out looks are grown e = (subst AllLater (made_values e) tt, subst (Grown table here took x) (made_memories e) grown)
  all_later [] (b ∷ rest) n k out looks are grown e = absurd looks
  all_later (formal ∷ formals) (b ∷ rest) n k out looks are grown e =
      let first = made_done (passed table b n) (λ o i. flat.made_then (all_passed table rest i) (λ more. Done (o ∷ more))) out k e in
      let second = made_done (all_passed table rest first.1) (λ more. Done (first.0 ∷ more)) out k first.3 in
      let middle = passed_grows table here took x formal b n first.1 first.0 grown looks.0 first.2 in
      let on = all_later formals rest first.1 second.1 second.0 looks.1 are.1 middle second.2 in (
        subst AllLater (made_values second.3) (one_later b n first.1 first.0 are.0 grown first.2, on.0),
        subst (Grown table here took x) (made_memories second.3) on.1,
      )

  -- what is lowered
  out_safe : (at : Pos) (k y : ℕ) (e : TypedTree) (owning access : Bool) (b : Actual) → actual c at k (objects.Place mode.Out owning access) y e ≡ Some b → IsOwnName typed e ⊎ IsScalarName typed e → SafeActual b
  out_safe at k y e owning access b is own =
      let to : Placed → Actual = (λ r. To r.place r.of (name_pos at e)) in
      let r = and_then_some (λ r. if one_type table r.of (object_at typed y).of then Some (to r) else None) (place c k e) b is in
      let sure = if_some (one_type table r.0.of (object_at typed y).of) (Some (to r.0)) b r.2 in
      subst SafeActual (some_same (to r.0) b sure.1) (by e r.0 r.1 own)
    where
      by : (e : TypedTree) (r : Placed) → place c k e ≡ Some r → IsOwnName typed e ⊎ IsScalarName typed e
          → ((o : ℕ) → Has (access_offsets table r.of) o → ⊥) ⊎ (SafePlace r × LooksThere f.base here took r.place (kinds table r.of))
      by (Name name z path u) r lowers (inl own) =
          inr (safe_name k z u path name r lowers own, looks_there table f.base here took r.place r.of (named_at c has.laws here took f.base kinds_there k z u path r lowers))
      by (Name name z path u) r lowers (inr scalar) =
          inl (scalar_none table settled r.of (subst (λ t. is_scalar (full table t) ≡ true) (sym (named_type c k z u path name r lowers)) scalar))
      by _ r lowers own = impossible r lowers

  value_safe : (k y : ℕ) (e : TypedTree) (b : Actual) (v : Use) → option_map codes.ByValue (value c k v (object_at typed y).of e) ≡ Some b → SafeActual b
  value_safe k y e b v is = let on = map_some codes.ByValue (value c k v (object_at typed y).of e) b is in subst SafeActual on.2 tt

  viewed_safe : (k y : ℕ) (e : TypedTree) (b : Actual) → (if is_scalar_shape (shape_of table (object_at typed y).of) then None else option_map codes.ByValue (value c k AsView (object_at typed y).of e)) ≡ Some b → SafeActual b
  viewed_safe k y e b is =
      let on = if_none (is_scalar_shape (shape_of table (object_at typed y).of)) (option_map codes.ByValue (value c k AsView (object_at typed y).of e)) b is in value_safe k y e b AsView on.1

  one_safe : (at : Pos) (k y : ℕ) (way : Passing) (e : TypedTree) (b : Actual) → actual c at k way y e ≡ Some b → IsOwnActual typed way e → SafeActual b
  one_safe at k y (objects.Place mode.Out owning access) e b is own = out_safe at k y e owning access b is own
  one_safe at k y (objects.Place mode.InOut owning access) e b is own =
      let to : Placed → Actual = (λ r. From r.place r.of (object_at typed y).of) in
      let r = and_then_some (λ r. if one_type table r.of (object_at typed y).of then Some (to r) else None) (place c k e) b is in
      let sure = if_some (one_type table r.0.of (object_at typed y).of) (Some (to r.0)) b r.2 in
      subst SafeActual (some_same (to r.0) b sure.1) tt
  one_safe at k y (objects.Place mode.In owning access) e b is own = viewed_safe k y e b is
  one_safe at k y Traversed e b is own = viewed_safe k y e b is
  one_safe at k y ByValue e b is own = value_safe k y e b (use_for table (object_at typed y).of) is

  first_some : {A : Type 0} (o : Option A) (rest : Option (List A)) (v : List A) → with_first o rest ≡ Some v → (b : A) × (more : List A) × (o ≡ Some b) × (rest ≡ Some more) × (b ∷ more ≡ v)
  first_some (Some b) (Some more) v e = (b, more, refl, refl, some_same (b ∷ more) v e)
  first_some (Some b) None v e = impossible v e
  first_some None rest v e = impossible v e

  actuals_safe : (at : Pos) (e : TypedTree) (k : ℕ) (ways : List Passing) (formals : List ℕ) (all : List Actual) → AreOwnActuals typed ways e → actuals c at k ways formals e ≡ Some all → SafeActuals all
  actuals_safe at NoMore k [] [] all own is = subst SafeActuals (some_same [] all is) tt
  actuals_safe at (More e rest) k (way ∷ ways) (y ∷ formals) all own is =
      let two = first_some (actual c at k way y e) (actuals c at (k + waiting e) ways formals rest) all is in
      subst SafeActuals two.4 (one_safe at k y way e two.0 two.2 own.0, actuals_safe at rest (k + waiting e) ways formals two.1 own.1 two.3)
  actuals_safe at e k [] [] all own is = impossible all is
  actuals_safe at e k [] (y ∷ formals) all own is = impossible all is
  actuals_safe at e k (way ∷ ways) [] all own is = impossible all is
  actuals_safe at e k (way ∷ ways) (y ∷ formals) all own is = impossible all is

  pub call_there : (sub : ℕ) (e : TypedTree) (d : Does) → AreOwnActuals typed (passings typed (sub_at typed sub)) e → called a fp sub e ≡ Some d → LeaksThere turn d
  call_there sub e d own is =
      let all = and_then_some (λ all. on_next a fp (λ n. Some (codes.Call sub all n))) (actuals c fp.pos 0 (passings typed (sub_at typed sub)) (sub_at typed sub).formals e) d is in
      let safe = actuals_safe fp.pos e 0 (passings typed (sub_at typed sub)) (sub_at typed sub).formals all.0 own all.1 in
      let looks = actuals_look c has.laws here took f.base kinds_there fp.pos e 0 (passings typed (sub_at typed sub)) (sub_at typed sub).formals all.0 all.1 in
      by (going a fp 0) all.0 all.2
      (λ out k done. let later = all_later (map (λ y. (object_at typed y).of) (sub_at typed sub).formals) all.0 x k out looks safe (grown_first table here took x known clear) done in looks_out out k later.1 later.0)
    where
      next_by : (Option ℕ → Option Does) → Option ℕ → Option Does
      next_by g None = None
      next_by g (Some n) = g (Some n)

      by : (n : Option (Option ℕ)) (all : List Actual) → option_and_then (next_by (λ n. Some (codes.Call sub all n))) n ≡ Some d
          → ((out : List Passed) (k : Flat) → all_passed table all x ≡ Done out k → LooksOut table k out) → LeaksThere turn d
      by None all e out = impossible d e
      by (Some None) all e out = impossible d e
      by (Some (Some n)) all e out = subst (LeaksThere turn) (some_same (codes.Call sub all (Some n)) d e) out

  -- ---- releases

  -- What the cell of an access value owns.
  module _ (k y u : ℕ) (path : TypedTree) (name : Pos) (r : Placed) (lowers : place c k (Name name y path u) ≡ Some r) (leads : Leads typed (object_at typed y).of path u)
      (d : ℕ) (constant named : Bool) (access : shape_of table r.of ≡ shape.Access d constant named) where
    abbrev at_point : Seen
    at_point = seen_of program has settled p input s t g owned kept same null stands m fs f outer frames stand runs fp q taken

    abbrev hands : List machine.Waiting
    hands = waiting_in s

    kept_then : Kept typed t.memory hands
    kept_then = kept_null typed s.memory t.memory hands same.1 null kept

    one : sorts table r.of ≡ Pointer d ∷ []
    one = has.laws.access r.of d constant named access

    in_cell : (n : ℕ) (zs : List ℤ) → n < length t.memory.cells → Spot typed t.memory hands (cell_place d (suc n)) (ways.OfCell (suc n)) → words_at x (InCell n 0) (kinds table d) ≡ Given zs
        → AreLeaked x.cells zs (access_offsets table d)
    in_cell n zs within designated words =
        let have = stands.memory.related.cells n within in
        let there = there_of (slice_get x.cells n) (front_of_cell 0 (kinds table d)) zs words in
        let stored : have.0 ≡ record { words = there.0; freed = false } = some_same have.0 (record { words = there.0; freed = false }) (sym have.1 ∙ there.1) in
        let live : (cell t.memory (suc n)).freed ≡ false = have.2.freed ∙ ap (λ (z : StoredCell). z.freed) stored in
        let owning : (content typed s.memory hands (ways.OfCell (suc n))).owns ≡ true = ap not ((cell_agree s.memory t.memory same.1 (suc n)).1 ∙ live) in
        let front = by (are_in 0 (kinds table d) (record { words = there.0; freed = false })) there.0 (sym (ap (λ o. touched o (front_of_cell 0 (kinds table d))) there.1) ∙ words) in
        part_leaked program has.laws settled s t g owned same stands (cell_place d (suc n)) (ways.OfCell (suc n)) designated owning (words_in there.0)
        (subst (λ ty. AllStand table (types t.memory) (sorts table ty) (cell t.memory (suc n)).slots (words_in there.0)) (sym (cell_agree s.memory t.memory same.1 (suc n)).0)
        (subst (λ (z : StoredCell). AllStand table (types t.memory) (sorts table (cell t.memory (suc n)).of) (cell t.memory (suc n)).slots (words_in z.words)) stored have.2.words)) zs
        (λ o has_o. let first : 0 + o ≡ o = omega arith in ap (λ i. get_or (words_in there.0) i (pos 0)) first ∙ front_get (kinds table d) (words_in there.0) zs o front (below o has_o))
      where
        by : (b : Bool) (ws : List _) → (if b then flat.front (kinds table d) (drop 0 (words_in ws)) else Broken) ≡ Given zs → flat.front (kinds table d) (words_in ws) ≡ Given zs
        by true ws e = e
        by false ws e = absurd (false≢true (ap is_given e))

        below : (o : ℕ) → Has (access_offsets table d) o → o < length (kinds table d)
        below o has_o = let at = has.laws.accesses d o has_o in subst (λ n. o < n) (sym (length-map (sorts table d) kind_of)) (below_length (sorts table d) o (Pointer at.0) at.1)

    -- the word of the place names a cell of its type
    named_cell : (w : FlatSpot) → SpotSame at_point (k + waiting (Name name y path u)) r.of (place_of (here_of at_point) (Name name y path u) (now at_point k)) (Given w)
        → (z : ℤ) → words_at x w (sort.Access ∷ []) ≡ Given (z ∷ []) → IsOwner table x d z
    named_cell w (zs, at, there) (pos zero) words = tt
    named_cell w (zs, at, there) (negsuc n) words = tt
    named_cell w (zs, at, there) (pos (suc n)) words =
        let few = stands.memory.related.counted.few in
        let held = is_held at_point few (k + waiting (Name name y path u)) r.of w zs (place_of (here_of at_point) (Name name y path u) (now at_point k)) at there in
        let found = place_found (here_of at_point) t.memory hands kept_then name y u path (now at_point k) at.p (drop (k + waiting (Name name y path u)) at_point.waits) leads at.gives in
        let taken_is : take (length (sorts table r.of)) zs ≡ pos (suc n) ∷ [] = given_one (take (length (sorts table r.of)) zs) (pos (suc n) ∷ [])
        (sym held.words ∙ (ap (λ l. words_at x w (map kind_of l)) one ∙ words)) in
        let value : IsValue table (types t.memory) (Pointer d ∷ []) (words_of typed t.memory at.p) (pos (suc n) ∷ [])
        = subst (λ l. IsValue table (types t.memory) l (words_of typed t.memory at.p) (pos (suc n) ∷ [])) one
        (subst (λ l. IsValue table (types t.memory) (sorts table r.of) (words_of typed t.memory at.p) l) (ap (λ l. all_fresh (kinds table r.of) l) taken_is ∙ ap (λ l. all_fresh (map kind_of l) (pos (suc n) ∷ [])) one) held.is) in
        let word = one_word (words_of typed t.memory at.p) n value in
        let to = cell_spot typed t.memory hands kept_then at.p found.1.at d constant named (suc n) found.1.spot (ap (shape_of table) at.of ∙ access) word.0 in
        λ us words_there. in_cell n us (subst (λ j. n < j) (length-map t.memory.cells (λ (cell : HeapCell). cell.of)) word.1) to words_there
      where
        given_one : (a b : List ℤ) → Given a ≡ Given b → a ≡ b
        given_one a b e = given_values e

        one_word : (ws : List Word) (n : ℕ) → IsValue table (types t.memory) (Pointer d ∷ []) ws (pos (suc n) ∷ []) → (ws ≡ Cell (suc n) ∷ []) × (n < length (types t.memory))
        one_word [] n value = absurd value.stand
        one_word (w ∷ []) n value = (ap (λ v. v ∷ []) value.stand.0.0.0, value.stand.0.0.1.within)
        one_word (w ∷ v ∷ ws) n value = let count = value.words in absurd (omega (arith, count))

    pub owner_there : (w : FlatSpot) → spot x r.place ≡ Given w → (z : ℤ) → words_at x w (sort.Access ∷ []) ≡ Given (z ∷ []) → IsOwner table x d z
    owner_there w found z words = named_cell w (subst (λ h. SpotSame at_point (k + waiting (Name name y path u)) r.of (place_of (here_of at_point) (Name name y path u) (now at_point k)) h) found
        (spots program has settled p input s t g owned kept same null stands m fs f outer frames stand runs fp q taken k y u path name r lowers)) z words

  pub release_there : (y u : ℕ) (path : TypedTree) (name : Pos) (d : Does) → Leads typed (object_at typed y).of path u → option_and_then (release_at a fp (Name name y path u)) (place c 0 (Name name y path u)) ≡ Some d
      → LeaksThere turn d
  release_there y u path name d leads is =
      let r = and_then_some (release_at a fp (Name name y path u)) (place c 0 (Name name y path u)) d is in by r.0 r.1 (shape_of table r.0.of) refl r.2
    where
      by_shape : Placed → Shape → Option Does
      by_shape r (shape.Access designated constant named) = on_going a fp (λ n. Some (codes.Release r.place designated name n))
      by_shape r _ = None

      by : (r : Placed) → place c 0 (Name name y path u) ≡ Some r → (sh : Shape) → shape_of table r.of ≡ sh → by_shape r sh ≡ Some d → LeaksThere turn d
      by r lowers (shape.Access designated constant named) access e =
          let n = and_then_some (λ n. Some (codes.Release r.place designated name n)) (going a fp 0) d e in
          subst (LeaksThere turn) (some_same (codes.Release r.place designated name n.0) d n.2) (owner_there 0 y u path name r lowers leads designated constant named access)
      by r lowers (shape.Whole low high) access e = impossible d e
      by r lowers (shape.Listed literals low high) access e = impossible d e
      by r lowers (shape.Fields cs) access e = impossible d e
      by r lowers (shape.Elements low high element) access e = impossible d e
      by r lowers (shape.Same of) access e = impossible d e
