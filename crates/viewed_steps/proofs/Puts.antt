-- What an actual comes to: a value, or a place, in a variable or in a cell.
use Rattle.std.proofs.Common.{◌≡◌, refl, sym, ap, ◌∙◌, subst, ◌⊎◌, inl, inr, ℕ, append-nil, Bool, true, false, not, List, [], ◌∷◌, if◌then◌else◌, ◌++◌}
use Rattle.std.proofs.lemmas.Bool.{false≢true, true≢false}
use Rattle.machine.specs.spark_base.declared.position.Pos.{Pos}
use Rattle.machine.specs.place_names.declared.fact.Fact.{Fact}
use Rattle.machine.specs.type_definitions.Types.{full, is_scalar, is_owning}
use Rattle.machine.specs.typed_tree.Trees.{TypedTree, Name}
use Rattle.machine.specs.typed_tree.Trees as typed
use Rattle.machine.specs.flow_paths.Objects.{object_at, is_anonymous, view_of, ByValue, Typing}
use Rattle.machine.specs.flow_paths.Names.{waiting as waits_in, name_of, selectors}
use Rattle.machine.specs.flow_paths.Acts.{acts_in, index_acts}
use Rattle.machine.specs.Words.{fits_type, component_type}
use Rattle.machine.specs.Words as machine
use Rattle.machine.specs.Memory.{Memory, Base, Place}
use Rattle.machine.specs.Memory as memory
use Rattle.machine.specs.Evaluate.{Here, Now, AsValue, AsView, Evaluated, Done, Raises, Traps, ConstraintError, followed_by, steps_of, walked, place_of, variable_place, checked, value, viewed}
use Rattle.machine.specs.Evaluate as run
use Rattle.machine.specs.Calls.{Passed, Value, type_of, value_passed, passed}
use Rattle.machine.specs.States.{Waiting, Leak}
use Rattle.soundness.specs.OwnedWays.Ways.{Step, Root, Component, OfVariable, Loc, OfRoot, OfCell, Way, Object, Lost, Into, All, Named, Under, Reaches, AllowsAll, part, along}
use Rattle.soundness.specs.OwnedWays.Ways as ways
use Rattle.soundness.proofs.OwnedWays.Locations.{under_along, under_itself, reaches_along}
use Rattle.soundness.proofs.OwnedWays.Unique.{one_location}
use Rattle.soundness.proofs.OwnedWays.Dropped.{named_base}
use Rattle.soundness.proofs.OwnedLoans.Ways.{in_part_way, lifts, lifted_way}
use Rattle.soundness.specs.PartOffsets.Parts.{type_in, offset_in, has_part, IsSettled}
use Rattle.soundness.specs.Seen.{IsNear, content, trunk, steps_in, seen, home, is_view_formal}
use Rattle.soundness.specs.Typed.{Matches, OwnsByShape, Kept, Spot, IsFixed, loc_of}
use Rattle.soundness.specs.Sound.{goes_through_none}
use Rattle.soundness.specs.TypedLaws.Needed.{Stays, IndexLaw, IsPlace as IsPlaceOf, Leads, Gives}
use Rattle.soundness.proofs.Joined.{steps_part}
use Rattle.soundness.proofs.Fixed.{plain_word}
use Rattle.soundness.proofs.Scalars.{acts, number_along, named_along}
use Rattle.soundness.proofs.Stays.{One, Quiet, quiet_then}
use Rattle.soundness.proofs.Taking.{Takes}
use Rattle.soundness.proofs.Walks.{way_along, Walked}
use Rattle.soundness.proofs.ViewedSoundness.Walks.{walk}
use Rattle.soundness.proofs.Passing.{IsValue}
use Rattle.soundness.specs.OwnedLoans.Views.{Around, Views, expand, ExcusedBy, Viewed, Go, Part, Down, on}
use Rattle.soundness.proofs.OwnedLoans.Moves.{IsPlace, expand_along, reached}
use Rattle.soundness.proofs.OwnedLoans.Meeting.{stands_base, stands}
use Rattle.soundness.specs.ViewedSoundness.Holds.{IsNamed, PartsAreNamed, Holds, is_bundle, IsOwners, Seeing}
use Rattle.soundness.proofs.ViewedSoundness.Names.{Starts, is_place, changed_owners}
use Rattle.soundness.proofs.ViewedSoundness.ViewKinds.{own_bundle, true_false}
use Rattle.soundness.proofs.ViewedSoundness.Stays.{Goes as GoesAlong, taking, steps_taking, name_quiet}
use Rattle.viewed_steps.specs.Taken.{Lodge}
use Rattle.viewed_steps.specs.Sound.{IsKindOfFormal}
use Rattle.viewed_steps.specs.Ready.{IsOwnPlace}
use Rattle.viewed_steps.proofs.Views.{AreLowFormals, AreAccess, formal_view, scalar_no_view}
use Rattle.viewed_steps.proofs.Read.{scalar_named}
use Rattle.viewed_steps.proofs.Between.{base_along, IsBegun}
use Rattle.viewed_steps.proofs.Lodged.{spot_lodged}
use Rattle.viewed_steps.proofs.Aside.{cell_name}
use Rattle.viewed_steps.proofs.Direct.{IsDirect, steps_direct, past_none, direct_leads, IsIn, walked_in, both_quiet, direct_part, part_reached}
use Rattle.viewed_steps.proofs.LaidOut.{IsOwnPut, IsPlainAt, IsOpenActual, IsHousedPut}
use Rattle.viewed_steps.proofs.Entered.{IsFit}
use Rattle.soundness.proofs.Keeping.{top_points, scalar}
use Rattle.machine.specs.place_names.declared.selector.Sel.{Sel}
use Rattle.machine.specs.place_names.declared.selector.Sel.TheVariants.{Field, Elem, Deref}
use Rattle.machine.specs.place_names.Names.{Name as PlaceName}
use Rattle.soundness.proofs.OwnedWays.Named.{longer}
use Rattle.viewed_steps.proofs.Copies.{copy_quiet}
use Rattle.soundness.proofs.ViewedSoundness.Outcomes.{named_plain}
use Rattle.soundness.specs.ViewedSoundness.Taken.{types_taken, TakesFit}
use Rattle.viewed_steps.proofs.Supplied.{Supplies}
use Rattle.viewed_steps.proofs.Constructors.{is_of_root_loc}
use Rattle.viewed_steps.proofs.Parted.{loc_roots}

-- ---- names that go through access values

abbrev has_deref : List Sel → Bool
has_deref [] = false
has_deref (Deref ∷ k) = true
has_deref (Field i ∷ k) = has_deref k
has_deref (Elem ∷ k) = has_deref k

derefs_part : (k : List Sel) (i : Step) → has_deref k ≡ false → has_deref (k ++ ways.sel_of i ∷ []) ≡ false
derefs_part [] (ways.Component i) none = refl
derefs_part [] (ways.Element i) none = refl
derefs_part (Deref ∷ k) i none = absurd (true≢false none)
derefs_part (Field j ∷ k) i none = derefs_part k i none
derefs_part (Elem ∷ k) i none = derefs_part k i none

along_derefs : (r : Root) (p : List Step) → has_deref (ways.sels_of (along (Object r) p)) ≡ false
along_derefs r [] = refl
along_derefs r (i ∷ p) = derefs_part (ways.sels_of (along (Object r) p)) i (along_derefs r p)

path_derefs : (s : Typing) (t u : ℕ) (path : TypedTree) → Leads s t path u → goes_through_none path ≡ false → has_deref (selectors path) ≡ true
unfolding goes_through_none selectors Leads
path_derefs s t u typed.NoMore leads some = absurd (true≢false some)
path_derefs s t u (typed.Component i rest) leads some = path_derefs s (component_type s.table t i) u rest leads.1 some
path_derefs s t u (typed.Element index low high rest) leads some = path_derefs s leads.0 u rest leads.3 some
path_derefs s t u (typed.Designated rest) leads some = refl
path_derefs s t u path never some = absurd never

module _ (h : Here) (sees : ℕ → Bool) (seeing : Seeing h.typing sees) (settled : IsSettled h.typing.table) (hands : List Waiting) (leaks : List Leak) (m : Memory) (waits : List (List machine.Word))
    (other : Around (home h.typing h.frame)) (facts : List Fact) (v : Views)
    (kept : Kept h.typing m hands)
    (well : Viewed (home h.typing h.frame) sees other v (seen h.typing m hands leaks) facts)
    (holds : Holds h.typing sees h.frame v m)
    (alone : (w : Way) → IsNear h.frame w → other.gone w → ⊥)
    (live : (w : Way) (l : Loc) → IsOwners h.typing w → Reaches (seen h.typing m hands leaks) w l → (content h.typing m hands (trunk l)).owns ≡ true)
    (in_formals : AreAccess h.typing)
    (index_law : IndexLaw)
    (own_law : OwnsByShape h.typing.table)
    (parts_named : PartsAreNamed h.typing.table)
    (formals_low : AreLowFormals h.typing h.frame v)
    (procedure : Bool) where
  abbrev pub at : List (List machine.Word) → Now
  at ws = record { memory = m; waits = ws }

  abbrev pub IsKind : ℕ → Type 0
  IsKind x = IsKindOfFormal h.typing x

  -- ---- values

  if_quiet : (on : List (List machine.Word)) (b : Bool) (x y : Evaluated (List machine.Word)) → Quiet (at on) One x → Quiet (at on) One y → Quiet (at on) One (if b then x else y)
  if_quiet on true x y p q = p
  if_quiet on false x y p q = q

  pub checked_quiet : (on : List (List machine.Word)) (P : List machine.Word → Type 0) (t : ℕ) (ws : List machine.Word) → P ws → Quiet (at on) P (checked h t ws (at on))
  checked_quiet on P t ws is = by_test (fits_type h.typing.table t ws)
    where
      by_test : (b : Bool) → Quiet (at on) P (if b then Done ws (at on) else Raises ConstraintError (at on))
      by_test true = (refl, is)
      by_test false = refl

  pub value_given : (before on : List (List machine.Word)) (x : ℕ) (e : TypedTree) → Stays h.typing e → Takes (waits_in e) before on → AllowsAll facts (acts (acts_in h.typing e))
      → Quiet (at on) (λ a. IsValue a) (passed h ByValue x e (at before))
  value_given before on x e stays takes allowed =
      let by_name = taking h sees seeing settled hands leaks m waits other facts v kept well holds alone live index_law own_law parts_named AsValue e stays before on takes allowed in
      let as_view = taking h sees seeing settled hands leaks m waits other facts v kept well holds alone live index_law own_law parts_named AsView e stays before on takes allowed in
      quiet_then (at on) One (λ a. IsValue a) (if is_anonymous (view_of h.typing x) then viewed h e (at before) else value h e (at before))
      (λ ws now. followed_by (checked h (type_of h x) ws now) value_passed)
      (if_quiet on (is_anonymous (view_of h.typing x)) (viewed h e (at before)) (value h e (at before)) as_view.0 by_name.0)
      (λ ws one. quiet_then (at on) One (λ a. IsValue a) (checked h (type_of h x) ws (at on)) value_passed (checked_quiet on One (type_of h x) ws one)
      (λ us single. (refl, single)))

  -- a scalar value fits
  pub scalar_fit : (x : ℕ) (ws : List machine.Word) → is_scalar (full h.typing.table (object_at h.typing x).of) ≡ true → One ws → IsFit h.typing m (object_at h.typing x).of ws
  scalar_fit x ws plain one =
      let waiting : Waiting = record { of = (object_at h.typing x).of; words = ws } in (
        one ∙ sym (plain_word h.typing settled (object_at h.typing x).of plain),
        top_points h.typing settled m waiting hands (scalar h.typing settled m waiting hands plain kept).points,
      )

  -- what is passed is such a copy
  abbrev pub IsCopied : ℕ → Passed → Type 0
  IsCopied x (Value ws) = IsFit h.typing m (object_at h.typing x).of ws
  IsCopied x a = ⊥

  pub copy_given : (before on : List (List machine.Word)) (x : ℕ) (e : TypedTree) → is_owning h.typing.table (object_at h.typing x).of ≡ false → IsNamed h.typing.table (object_at h.typing x).of
      → Gives h.typing (object_at h.typing x).of e → TakesFit h.typing e → Supplies h.typing m (types_taken h.typing e) before on → AllowsAll facts (acts (acts_in h.typing e)) → Quiet (at on) (IsCopied x) (passed h ByValue x e (at before))
  copy_given before on x e plain named gives fit takes allowed =
      quiet_then (at on) Fits (IsCopied x) (if is_anonymous (view_of h.typing x) then viewed h e (at before) else value h e (at before))
      (λ ws now. followed_by (checked h (type_of h x) ws now) value_passed)
      (by_kind (is_anonymous (view_of h.typing x)) (named_plain h.typing.table (object_at h.typing x).of named))
      (λ ws fit. quiet_then (at on) Fits (IsCopied x) (checked h (type_of h x) ws (at on)) value_passed (checked_quiet on Fits (type_of h x) ws fit)
      (λ us fits. (refl, fits)))
    where
      Fits : List machine.Word → Type 0
      Fits = IsFit h.typing m (object_at h.typing x).of

      -- its type has a name, so it is taken
      by_kind : (b : Bool) → b ≡ false → Quiet (at on) Fits (if b then viewed h e (at before) else value h e (at before))
      by_kind true e = absurd (true≢false e)
      by_kind false same =
          (copy_quiet h sees seeing settled hands leaks m waits other facts v kept well holds alone live index_law own_law parts_named e (object_at h.typing x).of gives plain named fit
          before on takes allowed).0

  -- ---- places

  -- A name that stands for itself leads to the place.
  abbrev Reached : TypedTree → Place → Type 0
  Reached (Name p x path u) k =
      (w : Way) × (l : Loc) × Named (home h.typing h.frame) w × (ways.name_of w ≡ name_of x path) × IsPlace v w
      × Reaches (seen h.typing m hands leaks) (expand v w) l × Spot h.typing m hands k l × (sees x ≡ false)
  Reached e k = ⊥

  abbrev pub IsPut : TypedTree → Place → Type 0
  IsPut e k = IsPlainAt h.typing sees h.frame v (seen h.typing m hands leaks) e k × Reached e k

  pub plain_type_at : (e : TypedTree) (k : Place) → IsPlainAt h.typing sees h.frame v (seen h.typing m hands leaks) e k → is_scalar (full h.typing.table k.of) ≡ true
  plain_type_at (Name p y path u) k (inl (fixed, bare)) = fixed.scalar
  plain_type_at (Name p y path u) k (inr (c, there, plain)) = plain
  plain_type_at e k never = absurd never

  -- a scalar place in a variable
  fixed_there : (k : Place) (l : Loc) (f x : ℕ) → Spot h.typing m hands k l → k.base ≡ memory.OfVariable f x → is_scalar (full h.typing.table k.of) ≡ true
      → is_bundle h.typing x ≡ false → (fixed : IsFixed h.typing k) × (is_bundle h.typing fixed.object ≡ false)
  fixed_there k l f x spot base plain bare =
      let b : trunk l ≡ OfRoot (OfVariable f x) = spot.base ∙ ap loc_of base in (
        record {
          frame = f;
          object = x;
          steps = steps_in l;
          base = base;
          there = ap (λ z. has_part h.typing.table (content h.typing m hands z).of (steps_in l)) (sym b) ∙ spot.there;
          at = spot.at ∙ ap (λ z. offset_in h.typing.table (content h.typing m hands z).of (steps_in l)) b;
          of = subst (λ z. Matches h.typing.table k.of (type_in h.typing.table (content h.typing m hands z).of (steps_in l))) b spot.of;
          scalar = plain;
        },
        bare,
      )

  -- a name that may go through access values
  through_walked : (on : List (List machine.Word)) (p : Pos) (x u : ℕ) (path : TypedTree) (w : Way) → is_scalar (full h.typing.table u) ≡ true → Named (home h.typing h.frame) w
      → ways.number_of w ≡ x → ways.name_of w ≡ name_of x path → IsPlace v w → sees x ≡ false
      → ((l : Loc) → Reaches (seen h.typing m hands leaks) (expand v w) l → IsOwners h.typing (expand v w))
      → (y : Evaluated Place) → Walked h.typing settled hands leaks m on (expand v w) u y → Quiet (at on) (λ k. IsPut (Name p x path u) k) y
  through_walked on p x u path w plain named root called place sight owners (Raises e n) is = is
  through_walked on p x u path w plain named root called place sight owners (Traps t n) never = absurd never
  through_walked on p x u path w plain named root called place sight owners (Done k n) (l, same, spot, reaches, of) =
      (same, (by_base k.base refl, (w, l, named, called, place, reaches, spot, sight)))
    where
      scalar_there : is_scalar (full h.typing.table k.of) ≡ true
      scalar_there = ap (λ z. is_scalar (full h.typing.table z)) of ∙ plain

      in_owner : (y f : ℕ) → trunk l ≡ OfRoot (OfVariable f y) → (content h.typing m hands (trunk l)).owns ≡ true → is_view_formal h.typing y ≡ false
      in_owner y f at owns = by_owner (is_view_formal h.typing y) (sym (ap (λ z. (content h.typing m hands z).owns) at) ∙ owns)
        where
          by_owner : (b : Bool) → not b ≡ true → b ≡ false
          by_owner true e = absurd (false≢true e)
          by_owner false e = refl

      home_base : (f : ℕ) × (y : ℕ) × (ways.base_of (expand v w) ≡ OfRoot (OfVariable f y))
      home_base =
          stands_base (home h.typing h.frame) sees v (seen h.typing m hands leaks) facts well.views w (named, ap sees root ∙ sight)

      by_base : (b : Base) → k.base ≡ b → IsPlainAt h.typing sees h.frame v (seen h.typing m hands leaks) (Name p x path u) k
      by_base (memory.OfVariable f y) base =
          inl (fixed_there k l f y spot base scalar_there (own_bundle h.typing y (in_owner y f (spot.base ∙ ap loc_of base) (live (expand v w) l (owners l reaches) reaches))))
      by_base (memory.OfCell c) base =
          let found = cell_name v (seen h.typing m hands leaks)
          (λ y z has. reached (home h.typing h.frame) sees other v (seen h.typing m hands leaks) facts y z (well.views.0 y z has))
          (λ y p z has. (well.views.1 y p z has).reaches) w l c reaches (spot.base ∙ ap loc_of base) in
          let cell : Lodge = record { name = found.name; way = expand v found.name; cell = c } in
          let stands : expand v w ≡ along (expand v found.name) found.rest = ap (expand v) found.is ∙ expand_along v found.name found.rest in
          inr (
            cell,
            record {
              lodged = (spot_lodged h.typing settled m hands leaks kept k l cell home_base.0 home_base.1 spot base
                  (sym (base_along (expand v found.name) found.rest) ∙ ap ways.base_of (sym stands) ∙ home_base.2) found.reaches).0;
              whole = w;
              named = named;
              called = called;
              begins = subst (ways.Under found.name) (sym found.is) (under_along found.name found.name found.rest (under_itself found.name));
              deep = found.deep;
              plain = sight;
              leads = refl;
              reaches = found.reaches;
            },
            scalar_there,
          )

  pub through_given : (before on : List (List machine.Word)) (e : TypedTree) (t : ℕ) → IsPlaceOf h.typing e t → is_scalar (full h.typing.table t) ≡ true → Takes (waits_in e) before on
      → IsOpenActual h.typing sees h.frame facts e → AllowsAll facts (acts (index_acts h.typing e)) → Quiet (at on) (λ k. IsPut e k) (place_of h e (at before))
  unfolding waits_in goes_through_none
  through_given before on (Name p x path u) t (leads, type) plain takes (sight, opens) allowed =
      let inner = steps_taking h sees seeing settled hands leaks m waits other facts v kept well holds alone live index_law own_law parts_named (object_at h.typing x).of u path leads before on takes allowed in
      let plain_there : is_scalar (full h.typing.table u) ≡ true = subst (λ z. is_scalar (full h.typing.table z) ≡ true) (sym type) plain in
      quiet_then (at on) (λ way. GoesAlong h.typing.table (object_at h.typing x).of u path way) (λ k. IsPut (Name p x path u) k) (steps_of h path (at before))
      (λ way now. walked h.typing way (variable_place h x) now) inner.0
      (λ way goes.
      let root : Way = Object (OfVariable (home h.typing h.frame x) x) in
      let whole : is_view_formal h.typing x ≡ true → way ≡ [] → ⊥ = (λ formal none. scalar_no_view h.typing sees in_formals x
      (subst (λ z. is_scalar (full h.typing.table z) ≡ true) (sym (subst (λ z. Starts h.typing.table (object_at h.typing x).of z u) none goes.lead)) plain_there)
      (formal_view h.typing x formal)) in
      through_walked on p x u path (way_along way root) plain_there (named_along (home h.typing h.frame) way root refl) (number_along way root)
      (λ j. record { root = number_along way root j; sels = goes.sels root j })
      (is_place h.typing v (home h.typing h.frame x) x u way goes.lead (scalar_named h.typing.table u plain_there) whole holds.only) sight
      (changed_owners h sees seeing settled hands leaks m on other facts v kept well holds alone live x u way sight whole goes.lead)
      (walked h.typing way (variable_place h x) (at on))
      (name_quiet h sees seeing settled hands leaks m on other facts v kept well holds alone live index_law own_law parts_named x path u way goes opens))
  through_given before on e t place plain takes opens allowed = absurd place

  own_walked : (on : List (List machine.Word)) (p : Pos) (x y u : ℕ) (path : TypedTree) (q : List Step) (w : Way) → IsNamed h.typing.table u → Matches h.typing.table u (object_at h.typing x).of
      → is_view_formal h.typing y ≡ false → w ≡ along (Object (OfVariable (home h.typing h.frame y) y)) q
      → ways.name_of w ≡ name_of y path → (z : Evaluated Place) → Walked h.typing settled hands leaks m on w u z
      → IsIn (memory.OfVariable (home h.typing h.frame y) y) z → Quiet (at on) (λ k. IsOwnPut h.typing h.frame x (Name p y path u) k) z
  own_walked on p x y u path q w own fits owner is called (Done k n) (l, same, spot, reaches, of) base =
      let root : Root = OfVariable (home h.typing h.frame y) y in
      let b : trunk l ≡ OfRoot root = spot.base ∙ ap loc_of base in
      let stands : l ≡ part (OfRoot root) q = part_reached (seen h.typing m hands leaks) root q l (subst (λ z. Reaches (seen h.typing m hands leaks) z l) is reaches) in
      let steps_are : steps_in l ≡ q = ap steps_in stands ∙ steps_part (OfRoot root) q ∙ append-nil q in (
        same,
        (
          w,
          record {
            object = y;
            steps = steps_in l;
            frame = home h.typing h.frame y;
            begins = inl refl;
            trunk = Object (OfVariable (home h.typing h.frame y) y);
            start = OfRoot (OfVariable (home h.typing h.frame y) y);
            stands = inl (refl, refl, base, refl, owner);
            root = refl;
            way = is ∙ ap (along (Object (OfVariable (home h.typing h.frame y) y))) (sym steps_are);
            there = ap (λ z. has_part h.typing.table (content h.typing m hands z).of (steps_in l)) (sym b) ∙ spot.there;
            at = spot.at ∙ ap (λ z. offset_in h.typing.table (content h.typing m hands z).of (steps_in l)) b;
            of = subst (λ z. Matches h.typing.table k.of (type_in h.typing.table (content h.typing m hands z).of (steps_in l))) b spot.of;
            named = subst (IsNamed h.typing.table) (sym of) own;
          },
          called,
          refl,
          subst (λ z. Matches h.typing.table z (object_at h.typing x).of) (sym of) fits,
          (refl, refl, base, refl, owner),
        ),
      )
  own_walked on p x y u path q w own fits owner is called (Raises e n) there base = there
  own_walked on p x y u path q w own fits owner is called (Traps t n) never base = absurd never

  own_given : (on : List (List machine.Word)) (x : ℕ) (p : Pos) (y u : ℕ) (path : TypedTree) (way : List run.Step) → IsNamed h.typing.table u → Matches h.typing.table u (object_at h.typing x).of
      → is_view_formal h.typing y ≡ false → GoesAlong h.typing.table (object_at h.typing y).of u path way → IsDirect way
      → Quiet (at on) (λ k. IsOwnPut h.typing h.frame x (Name p y path u) k) (walked h.typing way (variable_place h y) (at on))
  own_given on x p y u path way own fits owner goes direct =
      let root : Way = Object (OfVariable (home h.typing h.frame y) y) in
      let flat = direct_part (OfVariable (home h.typing h.frame y) y) way direct [] in
      own_walked on p x y u path flat.0 (way_along way root) own fits owner flat.1
      (λ j. record { root = number_along way root j; sels = goes.sels root j })
      (walked h.typing way (variable_place h y) (at on))
      (walk h.typing settled hands leaks m on (ExcusedBy (home h.typing h.frame) v other facts) kept well.owned well.known live way (variable_place h y)
      (OfRoot (OfVariable (home h.typing h.frame y) y)) root u
      (record { base = refl; made = tt; at = refl; there = refl; of = inl refl }) owner refl (direct_leads h.typing.table (object_at h.typing y).of u way direct goes.lead)
      (λ z past moved. past_none way direct root (λ y never. never) z past))
      (walked_in h.typing way direct (variable_place h y) (at on))

  pub own_place_given : (before on : List (List machine.Word)) (x : ℕ) (e : TypedTree) (t : ℕ) → IsPlaceOf h.typing e t → IsNamed h.typing.table t → Matches h.typing.table t (object_at h.typing x).of
      → IsOwnPlace h.typing e → Takes (waits_in e) before on → goes_through_none e ≡ true
      → AllowsAll facts (acts (index_acts h.typing e)) → Quiet (at on) (λ k. IsOwnPut h.typing h.frame x e k) (place_of h e (at before))
  unfolding waits_in goes_through_none
  own_place_given before on x (Name p y path u) t (leads, type) own fits owner takes direct allowed =
      let inner = steps_taking h sees seeing settled hands leaks m waits other facts v kept well holds alone live index_law own_law parts_named (object_at h.typing y).of u path leads before on takes allowed in
      quiet_then (at on) (λ way. GoesAlong h.typing.table (object_at h.typing y).of u path way × IsDirect way) (λ k. IsOwnPut h.typing h.frame x (Name p y path u) k) (steps_of h path (at before))
      (λ way now. walked h.typing way (variable_place h y) now)
      (both_quiet (at on) (λ way. GoesAlong h.typing.table (object_at h.typing y).of u path way) (steps_of h path (at before)) inner.0 (steps_direct h path direct (at before)))
      (λ way both. own_given on x p y u path way (subst (IsNamed h.typing.table) (sym type) own) (subst (λ z. Matches h.typing.table z (object_at h.typing x).of) (sym type) fits)
      (owner y (inl refl)) both.0 both.1)
  own_place_given before on x e t place own fits owner takes direct allowed = absurd place

  pub quiet_on : (on : List (List machine.Word)) (P Q : Place → Type 0) → ((k : Place) → P k → Q k) → (y : Evaluated Place) → Quiet (at on) P y → Quiet (at on) Q y
  quiet_on on P Q each (Done k n) is = (is.0, each k is.1)
  quiet_on on P Q each (Raises e n) is = is
  quiet_on on P Q each (Traps e n) is = is

  -- A place in a variable, or in a cell that an owner leads to.
  abbrev pub IsKeptPut : ℕ → TypedTree → Place → Type 0
  IsKeptPut x e k = IsOwnPut h.typing h.frame x e k ⊎ IsHousedPut h.typing sees h.frame v (seen h.typing m hands leaks) x e k

  -- a way to a part of a variable
  root_part : (w : Way) (l : Loc) (r : Root) → Reaches (seen h.typing m hands leaks) w l → trunk l ≡ OfRoot r → w ≡ along (Object r) (steps_in l)
  root_part (Object b) l r reach is =
      (let same : OfRoot b ≡ OfRoot r = ap trunk (sym reach) ∙ is in let one : b ≡ r = loc_roots same in ap Object one ∙ ap (along (Object r)) (ap steps_in (sym reach)))
  root_part (Lost n) l r reach is = (let never : OfCell n ≡ OfRoot r = ap trunk (sym reach.1) ∙ is in absurd (false≢true (ap is_of_root_loc never)))
  root_part (Into w i) l r (k, reach, at) is =
      ap (λ z. Into z i) (root_part w k r reach (ap trunk (sym at) ∙ is)) ∙ ap (along (Object r)) (ap steps_in (sym at))
  root_part (All w) l r (k, n, reach, held, at) is = (let never : OfCell n ≡ OfRoot r = ap trunk (sym at) ∙ is in absurd (false≢true (ap is_of_root_loc never)))

  -- what goes on from a way to a cell is in a cell
  on_cell : (w : Way) (n : ℕ) → Reaches (seen h.typing m hands leaks) w (OfCell n) → (rest : List Go) (l : Loc) → Reaches (seen h.typing m hands leaks) (on w rest) l
      → (c : ℕ) × (trunk l ≡ OfCell c)
  on_cell w n reach [] l there = (n, ap trunk (one_location (seen h.typing m hands leaks) w l (OfCell n) there reach))
  on_cell w n reach (Part i ∷ rest) l (k, there, at) = (let found = on_cell w n reach rest k there in (found.0, ap trunk at ∙ found.1))
  on_cell w n reach (Down ∷ rest) l (k, c, there, held, at) = (c, ap trunk at)

  -- a name that goes through an access value leads to no part of a variable
  deref_in_cell : (w : Way) (l : Loc) (f z : ℕ) → has_deref (ways.sels_of w) ≡ true → Reaches (seen h.typing m hands leaks) (expand v w) l → trunk l ≡ OfRoot (OfVariable f z) → ⊥
  deref_in_cell w l f z derefs reach base = elim (lifts v w) [
    | inl itself ↦ true_false (has_deref (ways.sels_of w)) derefs
        (ap (λ q. has_deref (ways.sels_of q)) (sym itself ∙ root_part (expand v w) l (OfVariable f z) reach base) ∙ along_derefs (OfVariable f z) (steps_in l))
    | inr (inr part) ↦ (
        let view = seen h.typing m hands leaks in
        let found = on_cell part.way (v.part_cell part.object part.steps) (well.views.1 part.object part.steps part.way part.has).reaches part.rest l
        (subst (λ q. Reaches view q l) (in_part_way v w part) reach) in
        let never : OfCell found.0 ≡ OfRoot (OfVariable f z) = sym found.1 ∙ base in absurd (false≢true (ap is_of_root_loc never)))
    | inr (inl lift) ↦ (
        let view = seen h.typing m hands leaks in
        let found = on_cell lift.way (v.cell lift.object)
        (reached (home h.typing h.frame) sees other v view facts lift.object lift.way (well.views.0 lift.object lift.way lift.has)) lift.rest l
        (subst (λ q. Reaches view q l) (lifted_way v w lift) reach) in
        let never : OfCell found.0 ≡ OfRoot (OfVariable f z) = sym found.1 ∙ base in absurd (false≢true (ap is_of_root_loc never)))
  ]

  -- where what a name stands for begins
  begun_there : (w : Way) → Named (home h.typing h.frame) w → sees (ways.number_of w) ≡ false
      → (f : ℕ) × (y : ℕ) × (ways.base_of (expand v w) ≡ OfRoot (OfVariable f y)) × IsBegun h.typing h.frame f y
  begun_there w named plain = elim (stands (home h.typing h.frame) sees v (seen h.typing m hands leaks) facts well.views w (named, plain)) [
    | inl own ↦ (home h.typing h.frame (ways.number_of (expand v w)), ways.number_of (expand v w), named_base (home h.typing h.frame) (expand v w) own.named, inl refl)
    | inr held ↦ (
        let front = (longer held.way (expand v w) held.under).base in
        elim (formals_low.0 held.object held.way held.has) [
          | inl named_there ↦ (
            home h.typing h.frame (ways.number_of held.way),
            ways.number_of held.way,
            front ∙ named_base (home h.typing h.frame) held.way named_there,
            inl refl,
          )
          | inr low ↦ (low.0.0, low.0.1, front ∙ low.0.2, inr (low.2, low.1))
        ])
  ]

  -- a name that goes through access values
  housed_walked : (on : List (List machine.Word)) (p : Pos) (x y u : ℕ) (path : TypedTree) (w : Way) → IsNamed h.typing.table u → Matches h.typing.table u (object_at h.typing x).of
      → has_deref (selectors path) ≡ true → Named (home h.typing h.frame) w → ways.number_of w ≡ y → ways.name_of w ≡ name_of y path → sees y ≡ false
      → (z : Evaluated Place) → Walked h.typing settled hands leaks m on (expand v w) u z → Quiet (at on) (λ k. IsKeptPut x (Name p y path u) k) z
  housed_walked on p x y u path w own fits derefs named root called sight (Raises e n) is = is
  housed_walked on p x y u path w own fits derefs named root called sight (Traps t n) never = absurd never
  housed_walked on p x y u path w own fits derefs named root called sight (Done k n) (l, same, spot, reaches, of) = (same, by_base k.base refl)
    where
      by_base : (b : Base) → k.base ≡ b → IsKeptPut x (Name p y path u) k
      by_base (memory.OfVariable f z) base =
          absurd (deref_in_cell w l f z (ap (λ (q : PlaceName). has_deref q.sels) called ∙ derefs) reaches (spot.base ∙ ap loc_of base))
      by_base (memory.OfCell c) base =
          let view = seen h.typing m hands leaks in
          let found = cell_name v view
          (λ b z has. reached (home h.typing h.frame) sees other v view facts b z (well.views.0 b z has))
          (λ b p z has. (well.views.1 b p z has).reaches) w l c reaches (spot.base ∙ ap loc_of base) in
          let begun = begun_there w named (ap sees root ∙ sight) in
          let goes : expand v w ≡ along (expand v found.name) found.rest = ap (expand v) found.is ∙ expand_along v found.name found.rest in
          let base_name : ways.base_of (expand v found.name) ≡ OfRoot (OfVariable begun.0 begun.1) =
          sym (base_along (expand v found.name) found.rest) ∙ ap ways.base_of (sym goes) ∙ begun.2 in
          let cell : Lodge = record { name = found.name; way = expand v found.name; cell = c } in
          let in_cell = spot_lodged h.typing settled m hands leaks kept k l cell begun.0 begun.1 spot base base_name found.reaches in
          let lodged = in_cell.0 in
          let stands_at : l ≡ part (OfCell c) found.rest =
          one_location view (expand v w) l (part (OfCell c) found.rest) reaches
          (subst (λ z. Reaches view z (part (OfCell c) found.rest)) (sym goes) (reaches_along view (expand v found.name) (OfCell c) found.rest found.reaches)) in
          let steps_are : found.rest ≡ lodged.steps = sym (in_cell.1 ∙ ap steps_in stands_at ∙ steps_part (OfCell c) found.rest ∙ append-nil found.rest) in
          inr (record {
            to = expand v w;
            inside = record {
              object = begun.1;
              steps = lodged.steps;
              frame = begun.0;
              begins = begun.3;
              trunk = expand v found.name;
              start = OfCell c;
              stands = inr (c, refl, base);
              root = base_name;
              way = goes ∙ ap (along (expand v found.name)) steps_are;
              there = lodged.there;
              at = lodged.at;
              of = lodged.of;
              named = subst (IsNamed h.typing.table) (sym of) own;
            };
            name = w;
            named = named;
            called = called;
            means = refl;
            fits = subst (λ z. Matches h.typing.table z (object_at h.typing x).of) (sym of) fits;
            front = found.name;
            begins = subst (ways.Under found.name) (sym found.is) (under_along found.name found.name found.rest (under_itself found.name));
            cell = c;
            start = refl;
            plain = sight;
            deep = found.deep;
            leads = refl;
            reaches = found.reaches;
          })

  pub housed_given : (before on : List (List machine.Word)) (x : ℕ) (e : TypedTree) (t : ℕ) → IsPlaceOf h.typing e t → IsNamed h.typing.table t → Matches h.typing.table t (object_at h.typing x).of
      → (goes_through_none e ≡ true → IsOwnPlace h.typing e) → Takes (waits_in e) before on → IsOpenActual h.typing sees h.frame facts e
      → AllowsAll facts (acts (index_acts h.typing e)) → Quiet (at on) (λ k. IsKeptPut x e k) (place_of h e (at before))
  unfolding waits_in goes_through_none
  housed_given before on x (Name p y path u) t (leads, type) own fits owner takes opens allowed = by_path (goes_through_none path) refl opens
    where
      direct_there : goes_through_none path ≡ true → Quiet (at on) (λ k. IsKeptPut x (Name p y path u) k) (place_of h (Name p y path u) (at before))
      direct_there none =
          quiet_on on (λ k. IsOwnPut h.typing h.frame x (Name p y path u) k) (λ k. IsKeptPut x (Name p y path u) k) (λ k put. inl put) (place_of h (Name p y path u) (at before))
          (own_place_given before on x (Name p y path u) t (leads, type) own fits (owner none) takes none allowed)

      by_path : (b : Bool) → goes_through_none path ≡ b → IsOpenActual h.typing sees h.frame facts (Name p y path u)
          → Quiet (at on) (λ k. IsKeptPut x (Name p y path u) k) (place_of h (Name p y path u) (at before))
      by_path true none opens = direct_there none
      by_path false some (sight, open_names) =
          let inner = steps_taking h sees seeing settled hands leaks m waits other facts v kept well holds alone live index_law own_law parts_named (object_at h.typing y).of u path leads before on takes allowed in
          quiet_then (at on) (λ way. GoesAlong h.typing.table (object_at h.typing y).of u path way) (λ k. IsKeptPut x (Name p y path u) k) (steps_of h path (at before))
          (λ way now. walked h.typing way (variable_place h y) now) inner.0
          (λ way goes.
          let root : Way = Object (OfVariable (home h.typing h.frame y) y) in
          housed_walked on p x y u path (way_along way root) (subst (IsNamed h.typing.table) (sym type) own) (subst (λ z. Matches h.typing.table z (object_at h.typing x).of) (sym type) fits)
          (path_derefs h.typing (object_at h.typing y).of u path leads some) (named_along (home h.typing h.frame) way root refl) (number_along way root)
          (λ j. record { root = number_along way root j; sels = goes.sels root j }) sight
          (walked h.typing way (variable_place h y) (at on))
          (name_quiet h sees seeing settled hands leaks m on other facts v kept well holds alone live index_law own_law parts_named y path u way goes open_names))
  housed_given before on x e t place own fits owner takes opens allowed = absurd place
  -- ---- all of them
