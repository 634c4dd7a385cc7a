-- The actuals of a call lead to the same in memories that agree: values, scalar places in variables, and
-- other places in variables, of which nothing is moved.
use Rattle.std.proofs.Common.{◌≡◌, refl, sym, ap, ◌∙◌, subst, ◌⊎◌, inl, inr, ℕ, Bool, true, false, ◌&&◌, List, [], ◌∷◌, map, arith, length, if◌then◌else◌}
use Rattle.machine.specs.spark_base.Lists.{Has}
use Rattle.machine.specs.place_names.declared.act.Mode.{Mode}
use Rattle.machine.specs.place_names.declared.act.Mode.TheVariants as mode
use Rattle.machine.specs.place_names.declared.act.Placed.{Placed}
use Rattle.machine.specs.place_names.declared.fact.Fact.{Fact}
use Rattle.machine.specs.place_names.Names.{Name as PlaceName}
use Rattle.machine.specs.place_names.declared.rule.Loan.TheVariants.{Borrowed}
use Rattle.machine.specs.type_definitions.Types.{Table, shape_of, full, is_scalar, is_owning}
use Rattle.machine.specs.typed_tree.Trees.{TypedTree, Name, More}
use Rattle.machine.specs.flow_paths.Objects.{Typing, object_at, is_anonymous, is_named_access, view_of, Passing, ByValue, passing_by}
use Rattle.machine.specs.flow_paths.Objects as objects
use Rattle.machine.specs.flow_paths.Names.{selectors, has_call, waiting, written, name_of}
use Rattle.machine.specs.flow_paths.Acts.{actual_act, actual_acts, actual_values, acts_in, index_acts}
use Rattle.machine.specs.Words as machine
use Rattle.machine.specs.Memory.{Memory, Place}
use Rattle.machine.specs.Evaluate.{Here, Now, Evaluated, Done, followed_by, variable_place, walked, evaluate, Raises, Traps, held_or_taken, AsView, AsValue, viewed, value, checked}
use Rattle.machine.specs.Evaluate as run
use Rattle.machine.specs.Calls.{type_of, Passed, passed, all_passed, value_passed}
use Rattle.machine.specs.Owners.{is_in}
use Rattle.machine.specs.States.{Waiting, Leak}
use Rattle.soundness.specs.OwnedWays.Ways.{OfVariable, Loc, Way, Object, All, Reaches, Past, AllowsAll, after}
use Rattle.soundness.specs.OwnedWays.Ways as ways
use Rattle.soundness.proofs.OwnedWays.Locations.{under_itself}
use Rattle.soundness.specs.PartOffsets.Parts.{IsSettled}
use Rattle.soundness.specs.Seen.{IsNear, content, trunk, seen, home, is_view_formal}
use Rattle.soundness.specs.Typed.{OwnsByShape, Matches}
use Rattle.soundness.specs.Sound.{goes_through_none}
use Rattle.soundness.specs.TypedLaws.Needed.{Gives, IndexLaw, Leads}
use Rattle.soundness.proofs.Contents.{bool_cases}
use Rattle.soundness.proofs.Fixed.{matches_scalar}
use Rattle.soundness.proofs.Walks.{way_along, past_along}
use Rattle.soundness.proofs.Scalars.{named_along, acts, acts_append, allows_both, number_along}
use Rattle.soundness.proofs.Stays.{Quiet}
use Rattle.soundness.proofs.Taking.{Takes}
use Rattle.soundness.specs.ViewedSoundness.Taken.{types_taken, TakesFit}
use Rattle.viewed_steps.proofs.Supplied.{Supplies, supplies_both, takes_supplied, scalar_types, place_types, seen_types}
use Rattle.recycled_runs.proofs.ViewedFacts.ViewedNulls.Copied.{copies_same}
use Rattle.soundness.proofs.Passing.{reads_keep, plain_type}
use Rattle.soundness.proofs.Lasting.{keeps}
use Rattle.soundness.specs.OwnedLoans.Views.{Around, Views}
use Rattle.soundness.proofs.OwnedLoans.Allowed.{cleared_open}
use Rattle.soundness.specs.ViewedSoundness.Holds.{IsNamed, PartsAreNamed, IsOwners, IsAccess, Seeing}
use Rattle.soundness.proofs.ViewedSoundness.Names.{Starts}
use Rattle.soundness.proofs.ViewedSoundness.ViewKinds.{true_false, view_access, not_view, plain_sees, both_no, plain_named}
use Rattle.soundness.proofs.ViewedSoundness.Stays.{Goes, no_selectors}
use Rattle.soundness.proofs.ViewedSoundness.Evaluated.{matches_named, live_trunk}
use Rattle.viewed_steps.specs.Sound.{IsKindOfFormal}
use Rattle.viewed_steps.specs.Ready.{IsOwnPlace, IsSeen, IsActualTo, AreActualsTo}
use Rattle.viewed_steps.proofs.Seeing.{IsClear, AreClear}
use Rattle.viewed_steps.proofs.LaidOut.{IsOpenActual, AreOpenActuals}
use Rattle.viewed_steps.proofs.Called.{way_to, head_of, head_values_are, head_of_reads, IsGiven, one_given}
use Rattle.recycled_runs.proofs.ViewedFacts.ViewedNulls.Spared.{Spares, done_on, spares_on, spared_whole}
use Rattle.soundness.proofs.OwnedLoans.Safe.{Unlent, Unmoved}
use Rattle.recycled_runs.specs.ViewedFacts.NullPlaces.Compares.{Compares}
use Rattle.recycled_runs.proofs.ViewedFacts.NullPlaces.Only.{OnlyOwners}
use Rattle.recycled_runs.proofs.ViewedFacts.NullPlaces.Direct.{has_deref, past_deref, selectors_direct}
use Rattle.recycled_runs.proofs.ViewedFacts.NullPlaces.Walks.{SameNow, SameTo, then_same, simply}
use Rattle.recycled_runs.proofs.ViewedFacts.NullPlaces.Laws.{Premises, Behaves, Finds, IsAt, IsWholeAt}
use Rattle.recycled_runs.proofs.ViewedFacts.NullPlaces.Scalars.{scalar_none, value_passed_same, to_passed_same, from_passed_same, place_then, steps_on, view_same, none_there}
use Rattle.recycled_runs.proofs.ViewedFacts.ViewedNulls.Names.{name_same, place_whole, view_whole, owner_found}
use Rattle.recycled_runs.proofs.ViewedFacts.ViewedNulls.Viewed.{viewed_premises, IsReadyIn, leads, viewed_behaves}
use Rattle.viewed_steps.proofs.Views.{AreAccess, AreUnseen, AreLowFormals}
use Rattle.viewed_steps.specs.Ready.{is_shown_type}
use Rattle.viewed_steps.specs.Traversals.{TraversalCall}
use Rattle.viewed_steps.proofs.Traversing.{first_actual}
use Rattle.viewed_steps.proofs.Called.{shown_given}
use Rattle.viewed_steps.proofs.Reading.{index_reads}
use Rattle.soundness.specs.ViewedSoundness.Holds.{is_given}
use Rattle.std.proofs.Common.{◌||◌}
use Rattle.std.proofs.lemmas.Bool.{false≢true, true≢false}
use Rattle.machine.specs.spark_base.declared.position.Pos.{Pos}
use Rattle.machine.specs.Memory as memory
use Rattle.machine.specs.Words.{fits_type}
use Rattle.soundness.proofs.ViewedSoundness.Outcomes.{named_plain}
use Rattle.soundness.specs.Ready.{root_of}
use Rattle.machine.specs.typed_tree.Trees as typed
use Rattle.recycled_runs.proofs.ViewedFacts.Constructors.{is_in_mode}
use Rattle.soundness.proofs.Parted.{by_either, not_empty}

-- A name that goes through an access value has steps.
some_selectors : (s : Typing) (t u : ℕ) (path : TypedTree) → Leads s t path u → goes_through_none path ≡ false → selectors path ≡ [] → ⊥
unfolding goes_through_none selectors Leads
some_selectors s t u typed.NoMore leads some none = true≢false some
some_selectors s t u (typed.Component i rest) leads some none = not_empty none
some_selectors s t u (typed.Element index low high rest) leads some none = not_empty none
some_selectors s t u (typed.Designated rest) leads some none = not_empty none
some_selectors s t u path never some none = absurd never

-- A name that goes through no access value to a place of no anonymous type is that of no view.
own_variable : (table : Table) (t u : ℕ) (way : List run.Step) (w : Way) → ((z : Way) → Past z (way_along way w) → ⊥) → Starts table t way u → IsNamed table u
    → is_anonymous (full table t) ≡ false
own_variable table t u way w direct starts named = by_view (is_anonymous (full table t)) refl way direct starts
  where
    by_view : (b : Bool) → is_anonymous (full table t) ≡ b → (way : List run.Step) → ((z : Way) → Past z (way_along way w) → ⊥) → Starts table t way u → b ≡ false
    by_view false e way direct starts = refl
    by_view true view [] direct same = absurd (not_view table t view (subst (IsNamed table) (sym same) named))
    by_view true view (run.ToComponent i ∷ way) direct (less, lead) =
        let none = ap length (view_access (shape_of table t) view).0 in absurd (omega (arith, none, less))
    by_view true view (run.ToElement n ∷ way) direct (less, lead) =
        let none = (view_access (shape_of table t) view).1 in absurd (omega (arith, none, less))
    by_view true view (run.ToDesignated ∷ way) direct starts = absurd (direct w (past_along w (All w) way (under_itself w)))

module _ (h : Here) (sees : ℕ → Bool) (seeing : Seeing h.typing sees) (settled : IsSettled h.typing.table) (leaks : List Leak) (other : Around (home h.typing h.frame))
    (alone : (w : Way) → IsNear h.frame w → other.gone w → ⊥) (in_formals : AreAccess h.typing) (index_law : IndexLaw)
    (own_law : OwnsByShape h.typing.table) (v : Views) (parts_named : PartsAreNamed h.typing.table) (m : Memory) (hands : List Waiting) (facts : List Fact)
    (ready : IsReadyIn h sees seeing settled leaks other alone in_formals index_law own_law v parts_named m hands facts)
    (only : OnlyOwners h.typing m)
    (formals_low : AreLowFormals h.typing h.frame v)
    (procedure : Bool) where
  abbrev at : List (List machine.Word) → Now
  at ws = record { memory = m; waits = ws }

  abbrev asks : Premises h
  asks = viewed_premises h sees parts_named

  law : Behaves h (viewed_premises h sees parts_named) m hands facts
  law = viewed_behaves h sees seeing settled leaks other alone in_formals index_law own_law v parts_named m hands facts ready only

  live : (w : Way) (l : Loc) → IsOwners h.typing w → Reaches (seen h.typing m hands leaks) w l → (content h.typing m hands (trunk l)).owns ≡ true
  live = live_trunk h sees seeing settled leaks [] other alone (keeps h.typing settled own_law) index_law own_law v parts_named m hands ready.viewed.owned

  abbrev Kind : ℕ → Type 0
  Kind x = IsKindOfFormal h.typing x

  abbrev way_for : ℕ → Passing
  way_for x = way_to h.typing own_law procedure x

  abbrev SameFor : List (List machine.Word) → List (List machine.Word) → Passing → ℕ → TypedTree → Type 0
  SameFor before on how x e = (n' : Now) → SameNow h.typing (at before) n' → SameTo h.typing (passed h how x e (at before)) (passed h how x e n')

  abbrev WholeAt : ℕ → Place → Type 0
  WholeAt u k = IsWholeAt h asks m hands facts u k

  -- ---- a place in a variable that isn't scalar

  whole_of : (on : List (List machine.Word)) (u : ℕ) (y : Evaluated Place) → Quiet (at on) (λ k. WholeAt u k × ((f z : ℕ) → k.base ≡ memory.OfVariable f z → is_view_formal h.typing z ≡ false)) y
      → Quiet (at on) (WholeAt u) y
  whole_of on u (Done k n) found = (found.0, found.1.0)
  whole_of on u (Raises e n) is = is
  whole_of on u (Traps e n) never = never

  own_finds : (on : List (List machine.Word)) (y u : ℕ) (path : TypedTree) (way : List run.Step)
      → Goes h.typing.table (object_at h.typing y).of u path way → goes_through_none path ≡ true → IsNamed h.typing.table u → is_view_formal h.typing y ≡ false
      → ((w : Way) → ways.name_of w ≡ name_of y path → Unlent facts w × Unmoved facts w) → Finds h asks m hands facts on y way (WholeAt u)
  own_finds on y u path way goes direct own owner spared =
      let w : Way = way_along way (Object (OfVariable (home h.typing h.frame y) y)) in
      let called : ways.name_of w ≡ name_of y path =
      (λ j. record { root = number_along way (Object (OfVariable (home h.typing h.frame y) y)) j; sels = goes.sels (Object (OfVariable (home h.typing h.frame y) y)) j }) in
      let unlent = (spared w called).0 in
      let unmoved = (spared w called).1 in
      let plain : sees y ≡ false =
      plain_sees h.typing sees seeing y (both_no (is_anonymous (view_of h.typing y)) (is_view_formal h.typing y)
      (own_variable h.typing.table (object_at h.typing y).of u way (Object (OfVariable (home h.typing h.frame y) y)) nothing_past goes.lead own) owner) in (
        whole_of on u (walked h.typing way (variable_place h y) (at on))
            (owner_found h sees seeing settled hands leaks m on other facts v ready.kept ready.viewed ready.holds alone live only in_formals index_law own_law parts_named y u way goes.lead plain
            (λ formal none. true_false (is_view_formal h.typing y) formal owner)
            (λ e. cleared_open facts w ((λ b n has over. unlent Borrowed b n has over), unmoved)) (λ b n has over. unlent Borrowed b n has over) unmoved),
        (law.direct on y u path way goes direct).1,
      )
    where
      nothing_past : (z : Way) → Past z (way_along way (Object (OfVariable (home h.typing h.frame y) y))) → ⊥
      nothing_past z past =
          let none : has_deref (ways.sels_of (way_along way (Object (OfVariable (home h.typing h.frame y) y)))) ≡ false =
          ap has_deref (goes.sels (Object (OfVariable (home h.typing h.frame y) y))) ∙ selectors_direct path direct in
          let no : true ≡ false = sym (past_deref z (way_along way (Object (OfVariable (home h.typing h.frame y) y))) past) ∙ none in absurd (true≢false no)

  -- and one that an owner leads to, through access values
  through_finds : (on : List (List machine.Word)) (y u : ℕ) (path : TypedTree) (way : List run.Step)
      → Goes h.typing.table (object_at h.typing y).of u path way → sees y ≡ false → (way ≡ [] → ⊥)
      → ((w : Way) → ways.name_of w ≡ name_of y path → Unlent facts w × Unmoved facts w) → Finds h asks m hands facts on y way (WholeAt u)
  through_finds on y u path way goes plain on_way spared =
      let w : Way = way_along way (Object (OfVariable (home h.typing h.frame y) y)) in
      let called : ways.name_of w ≡ name_of y path =
      (λ j. record { root = number_along way (Object (OfVariable (home h.typing h.frame y) y)) j; sels = goes.sels (Object (OfVariable (home h.typing h.frame y) y)) j }) in
      let unlent = (spared w called).0 in
      let unmoved = (spared w called).1 in (
        whole_of on u (walked h.typing way (variable_place h y) (at on))
            (owner_found h sees seeing settled hands leaks m on other facts v ready.kept ready.viewed ready.holds alone live only in_formals index_law own_law parts_named y u way goes.lead plain
            (λ formal none. on_way none)
            (λ e. cleared_open facts w ((λ b n has over. unlent Borrowed b n has over), unmoved)) (λ b n has over. unlent Borrowed b n has over) unmoved),
        name_same h sees seeing settled hands leaks m on other facts v ready.kept ready.viewed ready.holds alone live only in_formals y u way goes.lead
            (λ e. cleared_open facts w ((λ b n has over. unlent Borrowed b n has over), unmoved)),
      )

  -- ---- one actual

  scalar_type : (t u : ℕ) → Matches h.typing.table t u → is_scalar (full h.typing.table u) ≡ true → is_scalar (full h.typing.table t) ≡ true
  scalar_type t u (inl e) plain = matches_scalar h.typing u t (inl (sym e)) plain
  scalar_type t u (inr both) plain = both.0

  matches_back : (t u : ℕ) → Matches h.typing.table t u → Matches h.typing.table u t
  matches_back t u (inl e) = inl (sym e)
  matches_back t u (inr (a, b)) = inr (b, a)

  -- what is passed for a formal of mode `in out` that isn't scalar wasn't lent or moved
  abbrev IsSpared : ℕ → Mode → TypedTree → Type 0
  IsSpared x mode.InOut (Name p y path u) =
      is_scalar (full h.typing.table (object_at h.typing x).of) ≡ false → (w : Way) → ways.name_of w ≡ name_of y path → Unlent facts w × Unmoved facts w
  IsSpared x mode_of e = Unit {0}

  -- a place of a scalar type, that a name leads to
  place_finds : (on : List (List machine.Word)) (x : ℕ) (p : Pos) (y u : ℕ) (path : TypedTree)
      → IsOpenActual h.typing sees h.frame facts (Name p y path u) → (way : List run.Step)
      → Goes h.typing.table (object_at h.typing y).of u path way → Finds h asks m hands facts on y way (IsAt h asks m hands facts u)
  place_finds on x p y u path (sight, opens) way goes =
      let w : Way = way_along way (Object (OfVariable (home h.typing h.frame y) y)) in
      leads h sees seeing settled leaks other alone in_formals index_law own_law v parts_named m hands facts ready only on y u path way goes
      (opens w (named_along (home h.typing h.frame) way (Object (OfVariable (home h.typing h.frame y) y)) refl)
      (λ j. record { root = number_along way (Object (OfVariable (home h.typing h.frame y) y)) j; sels = goes.sels (Object (OfVariable (home h.typing h.frame y) y)) j }))

  -- a copy, of a type that owns nothing
  copied_same : (before on : List (List machine.Word)) (x : ℕ) (e : TypedTree) → is_owning h.typing.table (object_at h.typing x).of ≡ false → IsNamed h.typing.table (object_at h.typing x).of
      → Gives h.typing (object_at h.typing x).of e → TakesFit h.typing e → Supplies h.typing m (types_taken h.typing e) before on → Compares h.typing e → AllowsAll facts (acts (acts_in h.typing e)) → SameFor before on ByValue x e
  copied_same before on x e plain named gives fit takes compares allowed n' same =
      by_kind (is_anonymous (view_of h.typing x)) (named_plain h.typing.table (object_at h.typing x).of named)
    where
      of : ℕ
      of = (object_at h.typing x).of

      copied : SameTo h.typing (evaluate h AsValue e (at before)) (evaluate h AsValue e n')
      copied =
          copies_same h sees seeing settled leaks other alone in_formals index_law own_law v parts_named m hands facts ready only e of gives plain named fit before on takes compares allowed n' same

      last : List machine.Word → Now → Evaluated Passed
      last ws now = followed_by (checked h (type_of h x) ws now) value_passed

      by_test : (ws : List machine.Word) (n n'' : Now) → SameNow h.typing n n'' → (b : Bool)
          → SameTo h.typing (followed_by (if b then Done ws n else Raises run.ConstraintError n) value_passed) (followed_by (if b then Done ws n'' else Raises run.ConstraintError n'') value_passed)
      by_test ws n n'' now true = (refl, now)
      by_test ws n n'' now false = (refl, now)

      by_kind : (b : Bool) → b ≡ false
          → SameTo h.typing (followed_by (if b then viewed h e (at before) else value h e (at before)) last) (followed_by (if b then viewed h e n' else value h e n') last)
      by_kind true e = absurd (true≢false e)
      by_kind false is =
          simply h.typing (value h e (at before)) (value h e n') last last copied (λ ws n n'' now. by_test ws n n'' now (fits_type h.typing.table (type_of h x) ws))

  -- what a formal is shown that owns nothing, of any type
  shown_same : (before on : List (List machine.Word)) (x : ℕ) (e : TypedTree) → IsSeen h.typing x e → Takes (waiting e) before on → Compares h.typing e
      → AllowsAll facts (acts (index_acts h.typing e)) → IsClear h.typing sees facts e → (n' : Now) → SameNow h.typing (at before) n'
      → SameTo h.typing (followed_by (viewed h e (at before)) value_passed) (followed_by (viewed h e n') value_passed)
  unfolding Compares evaluate waiting has_call
  shown_same before on x typed.Null seen_there takes compares allowed clears n' same = (refl, same)
  shown_same before on x (Name p y path u) (lead, fits) takes compares allowed clears n' same =
      simply h.typing (viewed h (Name p y path u) (at before)) (viewed h (Name p y path u) n') value_passed value_passed
      (place_then h settled own_law asks m hands facts law before on y u path (held_or_taken h AsView) (held_or_taken h AsView) (IsWholeAt h asks m hands facts u)
      finds
      (law.steps (object_at h.typing y).of u path lead before on takes tt allowed).0 n'
      (steps_on h settled own_law asks m hands facts law (object_at h.typing y).of u path lead before on takes tt compares allowed n' same)
      (λ k i j found now. view_same h k i j (none_there h settled own_law asks m hands facts law on u k i found) now))
      (λ ws n n'' now. (refl, now))
    where
      finds : (way : List run.Step) → Goes h.typing.table (object_at h.typing y).of u path way → Finds h asks m hands facts on y way (IsWholeAt h asks m hands facts u)
      finds way goes = by_kind (is_anonymous (full h.typing.table u)) refl
        where
          w : Way
          w = way_along way (Object (OfVariable (home h.typing h.frame y) y))

          called : ways.name_of (way_along way (Object (OfVariable (home h.typing h.frame y) y))) ≡ name_of y path
          called = (λ j. record { root = number_along way (Object (OfVariable (home h.typing h.frame y) y)) j; sels = goes.sels (Object (OfVariable (home h.typing h.frame y) y)) j })

          alike : (n' : Now) → SameNow h.typing (at on) n' → SameTo h.typing (walked h.typing way (variable_place h y) (at on)) (walked h.typing way (variable_place h y) n')
          alike =
              name_same h sees seeing settled hands leaks m on other facts v ready.kept ready.viewed ready.holds alone live only in_formals y u way goes.lead
              (λ e. cleared_open facts w (clears w called e))

          by_kind : (b : Bool) → is_anonymous (full h.typing.table u) ≡ b → Finds h asks m hands facts on y way (IsWholeAt h asks m hands facts u)
          by_kind false plain = (
            place_whole h sees seeing settled hands leaks m on other facts v ready.kept ready.viewed ready.holds alone live only in_formals index_law own_law parts_named y u way goes.lead
                (plain_named h.typing.table u plain) (λ e. cleared_open facts w (clears w called e)) (λ e. clears w called e),
            alike,
          )
          by_kind true view = (
            view_whole h sees seeing settled hands leaks m on other facts v ready.kept ready.viewed ready.holds alone live only in_formals y u way goes.lead view
                (λ e. cleared_open facts w (clears w called e)),
            alike,
          )
  shown_same before on x e never takes compares allowed clears n' same = absurd never

  one_same : (mode_of : Mode) (owning access : Bool) (x : ℕ) (e : TypedTree) → (object_at h.typing x).mode ≡ mode_of → is_owning h.typing.table (object_at h.typing x).of ≡ owning → is_anonymous (view_of h.typing x) ≡ false → Kind x
      → IsActualTo h.typing x mode_of e → (is_given h.typing x ≡ true → IsClear h.typing sees facts e)
      → (is_in mode_of ≡ false → IsOpenActual h.typing sees h.frame facts e)
      → (before on : List (List machine.Word)) → TakesFit h.typing e → Supplies h.typing m (types_taken h.typing e) before on
      → Compares h.typing e → AllowsAll facts (acts (head_of h.typing own_law procedure mode_of owning e))
      → IsSpared x mode_of e → SameFor before on (passing_by mode_of owning access) x e
  unfolding Compares goes_through_none has_call waiting
  one_same mode.In false access x e is fits unseen kind stays clears direct before on fit takes compares allowed spared =
      let there = stays.0 (both_no (is_owning h.typing.table (object_at h.typing x).of) (is_anonymous (view_of h.typing x)) fits unseen) in
      by_either there.1
      (λ (plain, stay). ((value_passed_same h settled own_law asks m hands facts law before on x e stay
      (takes_supplied h.typing settled m e before on (scalar_types h.typing e (object_at h.typing x).of plain there.0 fit) takes) tt compares allowed).0))
      (λ (many, named). (copied_same before on x e fits named there.0 fit takes compares allowed))
  one_same mode.In true access x e is fits unseen kind stays clears direct before on fit takes compares allowed spared = by_either kind
      (λ plain. (absurd (true_false (is_owning h.typing.table (object_at h.typing x).of) fits (plain_type h.typing own_law (object_at h.typing x).of plain))))
      (λ other_kind. (elim other_kind [
        | inl back ↦ absurd (back.0 is)
        | inr (inl shown) ↦ (let seen_there = stays.1 (ap (λ b. b || is_anonymous (view_of h.typing x)) fits) in
            shown_same before on x e seen_there (takes_supplied h.typing settled m e before on (seen_types h.typing x e seen_there fit) takes) compares allowed (clears shown))
        | inr (inr plain) ↦ absurd (true_false (is_owning h.typing.table (object_at h.typing x).of) fits plain.1)
      ]))
  one_same mode.Out owning access x (Name p y path u) is fits unseen kind (t, (lead, type), match, which) clears direct before on fit takes compares allowed spared =
      (to_passed_same h settled own_law asks m hands facts law before on owning access x p y u path lead (takes_supplied h.typing settled m (Name p y path u) before on (place_types h.typing (Name p y path u) t (lead, type) fit) takes) tt compares allowed (IsAt h asks m hands facts u)
      (place_finds on x p y u path (direct refl))).0
  one_same mode.Out owning access x e is fits unseen kind (t, never, match, which) clears direct before on fit takes compares allowed spared = absurd never
  one_same mode.InOut owning access x (Name p y path u) is fits unseen kind (t, (lead, type), match, which) clears direct before on fit takes compares allowed spared =
      by_either (bool_cases (is_scalar (full h.typing.table (object_at h.typing x).of)))
      (λ plain. ((from_passed_same h settled own_law asks m hands facts law before on owning access x p y u path lead (takes_supplied h.typing settled m (Name p y path u) before on (place_types h.typing (Name p y path u) t (lead, type) fit) takes) tt compares allowed (IsAt h asks m hands facts u)
      (λ k there. scalar_none h settled own_law asks m hands facts law k there.0 u there.1 there.2
      (subst (λ z. is_scalar (full h.typing.table z) ≡ true) (sym type) (scalar_type t (object_at h.typing x).of match plain)))
      (place_finds on x p y u path (direct refl))).0))
      (λ many. ((from_passed_same h settled own_law asks m hands facts law before on owning access x p y u path lead (takes_supplied h.typing settled m (Name p y path u) before on (place_types h.typing (Name p y path u) t (lead, type) fit) takes) tt compares allowed (WholeAt u)
      (λ k there. there.3)
      (λ way goes. kept_finds many way goes (direct refl))).0))
    where
      own_type : Kind x → is_scalar (full h.typing.table (object_at h.typing x).of) ≡ false → IsNamed h.typing.table (object_at h.typing x).of
      own_type (inl plain) many = absurd (true_false (is_scalar (full h.typing.table (object_at h.typing x).of)) plain many)
      own_type (inr (inl (in_out, own))) many = own
      own_type (inr (inr (inr plain))) many = plain.2
      own_type (inr (inr (inl shown))) many = plain_named h.typing.table (object_at h.typing x).of unseen

      own_root : (is_scalar (full h.typing.table t) ≡ true) ⊎ (goes_through_none path ≡ true → IsOwnPlace h.typing (Name p y path u))
          → is_scalar (full h.typing.table (object_at h.typing x).of) ≡ false → goes_through_none path ≡ true → (z : ℕ) → Has (root_of (Name p y path u)) z → is_view_formal h.typing z ≡ false
      own_root (inl plain) many none z has =
          absurd (true_false (is_scalar (full h.typing.table (object_at h.typing x).of)) (matches_scalar h.typing t (object_at h.typing x).of match plain) many)
      own_root (inr own) many none z has = own none z has

      direct_finds : is_scalar (full h.typing.table (object_at h.typing x).of) ≡ false → (way : List run.Step) → Goes h.typing.table (object_at h.typing y).of u path way
          → goes_through_none path ≡ true → Finds h asks m hands facts on y way (WholeAt u)
      direct_finds many way goes none =
          own_finds on y u path way goes none
          (subst (IsNamed h.typing.table) (sym type) (matches_named h.typing.table (object_at h.typing x).of t (matches_back t (object_at h.typing x).of match) (own_type kind many)))
          (own_root which many none y (inl refl)) (spared many)

      kept_finds : is_scalar (full h.typing.table (object_at h.typing x).of) ≡ false → (way : List run.Step) → Goes h.typing.table (object_at h.typing y).of u path way
          → IsOpenActual h.typing sees h.frame facts (Name p y path u) → Finds h asks m hands facts on y way (WholeAt u)
      kept_finds many way goes (sight, opens) = by_either (bool_cases (goes_through_none path))
          (λ none. (direct_finds many way goes none))
          (λ some. (through_finds on y u path way goes sight (λ empty. some_selectors h.typing (object_at h.typing y).of u path lead some (no_selectors h.typing.table (object_at h.typing y).of u path way goes empty)) (spared many)))
  one_same mode.InOut owning access x e is fits unseen kind (t, never, match, which) clears direct before on fit takes compares allowed spared = absurd never

  -- ---- all of them

  -- What is known after the acts of those before, as `Spares` says; or all formals are of mode `in`.
  abbrev IsKnown : List Fact → List PlaceName → List ℕ → TypedTree → Type 0
  IsKnown known done formals actuals = Spares h.typing facts known done formals actuals ⊎ ((x : ℕ) → Has formals x → (object_at h.typing x).mode ≡ mode.In)

  abbrev access_for : ℕ → Bool
  access_for x = procedure && is_named_access (view_of h.typing x)

  is_spared : (mode_of : Mode) (owning access : Bool) (x : ℕ) (e : TypedTree) (formals : List ℕ) (rest : TypedTree) (known : List Fact) (done : List PlaceName)
      → (object_at h.typing x).mode ≡ mode_of → IsKnown known done (x ∷ formals) (More e rest) → AllowsAll known (acts (actual_act (passing_by mode_of owning access) e)) → IsSpared x mode_of e
  is_spared mode.InOut owning access x (Name p y path u) formals rest known done is (inl spares) allowed =
      (λ many. spared_whole h.typing facts x y u p path formals rest known done owning access (λ never. (let no : mode.InOut ≡ mode.In = sym is ∙ never in absurd (false≢true (ap is_in_mode no)))) spares allowed.0)
  is_spared mode.InOut owning access x (Name p y path u) formals rest known done is (inr plain) allowed =
      (λ many. absurd (let never : mode.InOut ≡ mode.In = sym is ∙ plain x (inl refl) in absurd (false≢true (ap is_in_mode never))))
  is_spared mode_of owning access x e formals rest known done is spares allowed = tt

  is_known_on : (x : ℕ) (e : TypedTree) (formals : List ℕ) (rest : TypedTree) (known : List Fact) (done : List PlaceName) → IsKnown known done (x ∷ formals) (More e rest)
      → IsKnown (after (acts (actual_act (way_for x) e)) known) (done_on (object_at h.typing x).mode (written e) done) formals rest
  is_known_on x e formals rest known done (inl spares) =
      inl (spares_on h.typing facts (object_at h.typing x).mode (is_owning h.typing.table (object_at h.typing x).of) (access_for x) x e formals rest known done
      (λ is never. (let no : mode.Out ≡ mode.In = sym is ∙ never in absurd (false≢true (ap is_in_mode no)))) spares)
  is_known_on x e formals rest known done (inr plain) = inr (λ y has. plain y (inr has))

  -- They are read under the facts before the call; the acts of those that are copied back come after them.
  pub all_same : (before on : List (List machine.Word)) (known : List Fact) (done : List PlaceName) (formals : List ℕ) (actuals : TypedTree) → IsKnown known done formals actuals
      → ((x : ℕ) → Has formals x → Kind x) → AreUnseen h.typing formals → AreActualsTo h.typing formals actuals → AreClear h.typing sees facts formals actuals → AreOpenActuals h.typing sees h.frame facts formals actuals → TakesFit h.typing actuals → Supplies h.typing m (types_taken h.typing actuals) before on
      → Compares h.typing actuals → AllowsAll facts (acts (actual_values h.typing (map (way_to h.typing own_law procedure) formals) actuals))
      → AllowsAll known (acts (actual_acts (map (way_to h.typing own_law procedure) formals) actuals))
      → (n' : Now) → SameNow h.typing (record { memory = m; waits = before }) n'
      → SameTo h.typing (all_passed h (map (way_to h.typing own_law procedure) formals) formals actuals (record { memory = m; waits = before }))
      (all_passed h (map (way_to h.typing own_law procedure) formals) formals actuals n')
  unfolding Compares has_call waiting TakesFit types_taken
  all_same before on known done [] actuals spares kinds unseen stay clears copied fit takes compares allowed copies n' same = (refl, same)
  all_same before on known done (x ∷ formals) (More e rest) spares kinds unseen stay clears copied fit takes compares allowed copies n' same =
      let mode_of : Mode = (object_at h.typing x).mode in
      let owning : Bool = is_owning h.typing.table (object_at h.typing x).of in
      let access : Bool = access_for x in
      let kind = kinds x (inl refl) in
      let head : List Placed = head_of h.typing own_law procedure mode_of owning e in
      let others : List Placed = actual_values h.typing (map (way_to h.typing own_law procedure) formals) rest in
      let copy : List Placed = actual_act (way_for x) e in
      let copies_left : List Placed = actual_acts (map (way_to h.typing own_law procedure) formals) rest in
      let two = supplies_both h.typing m (types_taken h.typing e) (types_taken h.typing rest) before on takes in
      let each = allows_both facts (acts head) (acts others)
      (subst (AllowsAll facts) (acts_append head others) (subst (λ z. AllowsAll facts (acts z)) (head_values_are h.typing own_law procedure x e (map (way_to h.typing own_law procedure) formals) rest) allowed)) in
      let still : after (acts head) facts ≡ facts = reads_keep head (head_of_reads h.typing own_law procedure parts_named x mode_of owning e refl (unseen x (inl refl)) stay.0) facts in
      let each_copy = allows_both known (acts copy) (acts copies_left) (subst (AllowsAll known) (acts_append copy copies_left) copies) in
      let first = one_same mode_of owning access x e refl refl (unseen x (inl refl)) kind stay.0 clears.0 copied.0 before two.0 fit.0 two.1 compares.0 each.0
      (is_spared mode_of owning access x e formals rest known done refl spares each_copy.0) in
      let given = one_given h sees seeing settled hands leaks m [] other facts v ready.kept ready.viewed ready.holds alone live in_formals index_law own_law parts_named formals_low procedure before two.0 mode_of owning access x e
      refl refl (unseen x (inl refl)) kind stay.0 clears.0 copied.0 fit.0 two.1 each.0 in
      let next : Passed → Now → Evaluated (List Passed) =
      (λ a now. followed_by (all_passed h (map (way_to h.typing own_law procedure) formals) formals rest now) (λ more now. Done (a ∷ more) now)) in
      then_same h.typing
      (λ y. Quiet (at two.0) (λ a. IsGiven h sees seeing settled hands leaks m [] other facts v ready.kept ready.viewed ready.holds alone live in_formals index_law own_law parts_named formals_low procedure x mode_of e a) y)
      (passed h (way_for x) x e (at before)) (passed h (way_for x) x e n') next next given (first n' same)
      (λ a n n'' q now. subst (λ z. SameTo h.typing (next a z) (next a n'')) (sym q.0)
      (simply h.typing (all_passed h (map (way_to h.typing own_law procedure) formals) formals rest (at two.0)) (all_passed h (map (way_to h.typing own_law procedure) formals) formals rest n'')
      (λ more now. Done (a ∷ more) now) (λ more now. Done (a ∷ more) now)
      (all_same two.0 on (after (acts copy) known) (done_on mode_of (written e) done) formals rest (is_known_on x e formals rest known done spares)
      (λ y has. kinds y (inr has)) (λ y has. unseen y (inr has)) stay.1 clears.1 copied.1 fit.1 two.2 compares.1
      (subst (λ z. AllowsAll z (acts others)) still each.1) each_copy.1 n''
      (subst (λ z. SameNow h.typing z n'') q.0 now))
      (λ more k k' last. (refl, last))))
  all_same before on known done (x ∷ formals) actuals spares kinds unseen stay clears copied fit takes compares allowed copies n' same = (refl, same)

  -- those of the call of a traversal function: the first one is seen, and all formals are of mode `in`
  pub traversed_same : (before on : List (List machine.Word)) (known : List Fact) (f : ℕ) (c : TraversalCall) (formals : List ℕ)
      → IsAccess h.typing f → is_shown_type h.typing f ≡ true → IsSeen h.typing f (first_actual h.typing sees own_law c) → IsClear h.typing sees facts (first_actual h.typing sees own_law c)
      → ((x : ℕ) → Has formals x → (object_at h.typing x).mode ≡ mode.In) → ((x : ℕ) → Has formals x → Kind x) → AreUnseen h.typing formals
      → AreActualsTo h.typing formals c.others → AreClear h.typing sees facts formals c.others → AreOpenActuals h.typing sees h.frame facts formals c.others
      → TakesFit h.typing (More (first_actual h.typing sees own_law c) c.others) → Supplies h.typing m (types_taken h.typing (More (first_actual h.typing sees own_law c) c.others)) before on → Compares h.typing (More (first_actual h.typing sees own_law c) c.others)
      → AllowsAll facts (acts (actual_values h.typing (objects.Traversed ∷ (map (way_to h.typing own_law procedure) formals)) (More (first_actual h.typing sees own_law c) c.others)))
      → AllowsAll known (acts (actual_acts (map (way_to h.typing own_law procedure) formals) c.others))
      → (n' : Now) → SameNow h.typing (record { memory = m; waits = before }) n'
      → SameTo h.typing (all_passed h (objects.Traversed ∷ (map (way_to h.typing own_law procedure) formals)) (f ∷ formals) (More (first_actual h.typing sees own_law c) c.others) (record { memory = m; waits = before }))
      (all_passed h (objects.Traversed ∷ (map (way_to h.typing own_law procedure) formals)) (f ∷ formals) (More (first_actual h.typing sees own_law c) c.others) n')
  unfolding Compares has_call waiting TakesFit types_taken
  traversed_same before on known f c formals access shown seen_first opens modes kinds unseen stay opens_others copied fit takes compares allowed copies n' same =
      let first : TypedTree = first_actual h.typing sees own_law c in
      let first_acts : List Placed = index_acts h.typing (first_actual h.typing sees own_law c) in
      let others : List Placed = actual_values h.typing (map (way_to h.typing own_law procedure) formals) c.others in
      let two = supplies_both h.typing m (types_taken h.typing first) (types_taken h.typing c.others) before on takes in
      let taken_first = takes_supplied h.typing settled m first before two.0 (seen_types h.typing f first seen_first fit.0) two.1 in
      let each = allows_both facts (acts first_acts) (acts others) (subst (AllowsAll facts) (acts_append first_acts others) allowed) in
      let still : after (acts first_acts) facts ≡ facts = reads_keep first_acts (index_reads h.typing own_law (first_actual h.typing sees own_law c) c.of (seen_first.0, refl)) facts in
      let given = shown_given h sees seeing settled hands leaks m [] other facts v ready.kept ready.viewed ready.holds alone live in_formals index_law own_law parts_named formals_low procedure before two.0 f
      (first_actual h.typing sees own_law c) access shown seen_first taken_first each.0 opens in
      let next : Passed → Now → Evaluated (List Passed) =
      (λ a now. followed_by (all_passed h (map (way_to h.typing own_law procedure) formals) formals c.others now) (λ more now. Done (a ∷ more) now)) in
      then_same h.typing
      (λ y. Quiet (at two.0) (λ a. IsGiven h sees seeing settled hands leaks m [] other facts v ready.kept ready.viewed ready.holds alone live in_formals index_law own_law parts_named formals_low procedure f mode.In
      (first_actual h.typing sees own_law c) a) y)
      (passed h objects.Traversed f (first_actual h.typing sees own_law c) (at before)) (passed h objects.Traversed f (first_actual h.typing sees own_law c) n') next next given
      (shown_same before two.0 f (first_actual h.typing sees own_law c) seen_first taken_first compares.0 each.0 opens n' same)
      (λ a n n'' q now. subst (λ z. SameTo h.typing (next a z) (next a n'')) (sym q.0)
      (simply h.typing (all_passed h (map (way_to h.typing own_law procedure) formals) formals c.others (at two.0)) (all_passed h (map (way_to h.typing own_law procedure) formals) formals c.others n'')
      (λ more now. Done (a ∷ more) now) (λ more now. Done (a ∷ more) now)
      (all_same two.0 on known [] formals c.others (inr modes) kinds unseen stay opens_others copied fit.1 two.2 compares.1
      (subst (λ z. AllowsAll z (acts others)) still each.1) copies n''
      (subst (λ z. SameNow h.typing z n'') q.0 now))
      (λ more k k' last. (refl, last))))
