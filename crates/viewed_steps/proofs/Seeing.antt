-- What is passed for a formal that owns nothing: null, or the number of a cell that a way of the caller leads
-- to. Nothing that is gone meets that way, and it is foreign in what is called.
use Rattle.std.proofs.Common.{arith, ◌≡◌, refl, sym, ap, ◌∙◌, subst, ◌⊎◌, inl, inr, ℕ, Bool, true, false, List, [], ◌∷◌, get_or, Option, Some, None}
use Rattle.std.proofs.lemmas.Bool.{false≢true}
use Rattle.machine.specs.spark_base.declared.position.Pos.{Pos}
use Rattle.machine.specs.place_names.declared.fact.Fact.{Fact}
use Rattle.machine.specs.place_names.Names.{Name as PlaceName}
use Rattle.machine.specs.type_definitions.declared.table.Shape.TheVariants as shape
use Rattle.machine.specs.type_definitions.Types.{shape_of, is_owning, is_scalar, view_of as view_of_shape}
use Rattle.machine.specs.typed_tree.Trees.{TypedTree, Name, More}
use Rattle.machine.specs.typed_tree.Trees as typed
use Rattle.machine.specs.flow_paths.Objects.{Typing, object_at, is_anonymous, view_of}
use Rattle.machine.specs.flow_paths.Names.{Written, written, waiting as waits_in, name_of}
use Rattle.machine.specs.flow_paths.Acts.{index_acts}
use Rattle.machine.specs.Words as machine
use Rattle.machine.specs.Memory.{Memory, fresh, no_slot, cell}
use Rattle.machine.specs.Evaluate.{Here, Now, AsView, Evaluated, Done, Raises, Traps, evaluate, viewed}
use Rattle.machine.specs.States.{Waiting, Leak}
use Rattle.soundness.specs.OwnedWays.Ways.{Step, Loc, OfCell, Way, All, Reaches, Under, Named, AllowsAll, number_of, base_of, along}
use Rattle.soundness.specs.OwnedWays.Ways as ways
use Rattle.soundness.specs.PartOffsets.Parts.{IsSettled, has_part, type_in, offset_in}
use Rattle.soundness.specs.Seen.{IsNear, content, trunk, seen, home, is_view_formal}
use Rattle.soundness.specs.Typed.{IsCell, OwnsByShape, Kept}
use Rattle.soundness.specs.TypedLaws.Needed.{IndexLaw, Matches}
use Rattle.soundness.proofs.Scalars.{acts}
use Rattle.soundness.proofs.Stays.{Quiet}
use Rattle.soundness.proofs.Taking.{Takes, takes_zero}
use Rattle.soundness.specs.OwnedLoans.Views.{Around, Views, expand, ExcusedBy, Viewed}
use Rattle.soundness.proofs.OwnedLoans.Allowed.{Cleared}
use Rattle.soundness.proofs.OwnedLoans.Ended.{stands_itself}
use Rattle.soundness.specs.OwnedLoans.Views.{Go, on}
use Rattle.soundness.proofs.OwnedLoans.Ways.{lifted_way, base_on, named_on, in_part_way, lifts}
use Rattle.soundness.specs.ViewedSoundness.Holds.{PartsAreNamed, is_view, IsOwners, Holds, IsAccess, is_given, is_bundle, GoesBy, Seeing}
use Rattle.soundness.proofs.ViewedSoundness.Given.{IsLow, lent_whole, seen_whole, part_whole}
use Rattle.soundness.proofs.ViewedSoundness.Names.{stands_owners, part_owners, seen_parts}
use Rattle.soundness.proofs.ViewedSoundness.ViewKinds.{true_false, neither, plain_sees, bundle_access}
use Rattle.soundness.proofs.ViewedSoundness.Sources.{Shows, source_on}
use Rattle.soundness.proofs.ViewedSoundness.Bundles.{ShowsParts, parts_on}
use Rattle.viewed_steps.specs.Ready.{IsSeen, IsAccessAs}
use Rattle.viewed_steps.specs.Sound.{Lies}
use Rattle.soundness.proofs.Steps.{matches_words, same_below}
use Rattle.soundness.proofs.Keeping.{retyped_points}
use Rattle.soundness.proofs.Passing.{plain_type}
use Rattle.soundness.proofs.ViewedSoundness.Lends.{matches_on}
use Rattle.viewed_steps.proofs.Entered.{IsTyped, IsFit}
use Rattle.viewed_steps.proofs.Views.{AreLowFormals, bundle_owns}
use Rattle.soundness.proofs.Parted.{null_cell, by_either}

-- Nothing of a name was moved or is borrowed, unless it is looked at through an observer or a formal.
abbrev pub IsClear : Typing → (ℕ → Bool) → List Fact → TypedTree → Type 0
IsClear s sees facts (Name p y path u) = (w : Way) → ways.name_of w ≡ name_of y path → sees y ≡ false → Cleared facts w
IsClear s sees facts e = Unit {0}

-- What is shown is so.
abbrev pub AreClear : Typing → (ℕ → Bool) → List Fact → List ℕ → TypedTree → Type 0
AreClear s sees facts (x ∷ formals) (More e rest) = (is_given s x ≡ true → IsClear s sees facts e) × AreClear s sees facts formals rest
AreClear s sees facts formals actuals = Unit {0}

same_designated : (k d : ℕ) (e o c n : Bool) → shape.Access k e o ≡ shape.Access d c n → k ≡ d
same_designated k d e o c n is = cc

module _ (h : Here) (sees : ℕ → Bool) (seeing : Seeing h.typing sees) (settled : IsSettled h.typing.table) (hands : List Waiting) (leaks : List Leak) (m : Memory) (waits : List (List machine.Word))
    (other : Around (home h.typing h.frame)) (facts : List Fact) (v : Views)
    (kept : Kept h.typing m hands)
    (well : Viewed (home h.typing h.frame) sees other v (seen h.typing m hands leaks) facts)
    (holds : Holds h.typing sees h.frame v m)
    (alone : (w : Way) → IsNear h.frame w → other.gone w → ⊥)
    (live : (w : Way) (l : Loc) → IsOwners h.typing w → Reaches (seen h.typing m hands leaks) w l → (content h.typing m hands (trunk l)).owns ≡ true)
    (index_law : IndexLaw)
    (own_law : OwnsByShape h.typing.table)
    (parts_named : PartsAreNamed h.typing.table)
    (formals_low : AreLowFormals h.typing h.frame v) where
  abbrev s : Typing
  s = h.typing

  abbrev Home : ℕ → ℕ
  Home = home h.typing h.frame

  abbrev at : List (List machine.Word) → Now
  at ws = record { memory = m; waits = ws }

  abbrev pub Meets : Way → Way → Type 0
  Meets z w = Under z w ⊎ Under w z

  -- A name is that of an actual.
  abbrev pub IsCalledBy : TypedTree → Way → Type 0
  IsCalledBy (Name p y path u) w = ways.name_of w ≡ name_of y path
  IsCalledBy e w = ⊥

  -- A way to the cell with a number: what the name of the actual designates.
  pub record Sees (e : TypedTree) (n : ℕ) : Type 0 where
    pub from : Way
    pub from_named : Named (home h.typing h.frame) from
    pub called : IsCalledBy e from
    pub way : Way
    pub leads : way ≡ expand v (All from)
    pub goes : GoesBy h.typing v (number_of from) (All from)
    pub owners : IsOwners h.typing way
    pub reaches : Reaches (seen h.typing m hands leaks) way (OfCell n)
    pub low : IsLow h.typing h.frame way
    pub whole : (z : Way) → ExcusedBy (home h.typing h.frame) v other facts z → Meets z way → ⊥

  -- what is called by its name is written
  pub named_written : (e : TypedTree) (w : Way) → IsCalledBy e w → (k : Written) × (written e ≡ Some k) × (k.name ≡ ways.name_of w)
  named_written (Name p y path u) w called = (record { pos = p; name = name_of y path; of = u }, refl, sym called)
  named_written e w none = absurd none

  abbrev pub IsSeenAs : ℕ → TypedTree → List machine.Word → Type 0
  IsSeenAs x e ws = (z : machine.Word) × (ws ≡ z ∷ []) × IsTyped h.typing m x z × ((n : ℕ) → z ≡ machine.Cell n → Sees e n)

  -- the rest is about a name that shows a cell
  module _ (e : TypedTree) (y : ℕ) (w : Way) (called : IsCalledBy e w) (named : Named (home h.typing h.frame) w) (root : number_of w ≡ y)
      (clears : sees y ≡ false → Cleared facts w) (n : ℕ) (reaches : Reaches (seen h.typing m hands leaks) (expand v (All w)) (OfCell n))
      (goes : GoesBy h.typing v y (All w)) where
    goes_there : GoesBy h.typing v (number_of w) (All w)
    goes_there = subst (λ z. GoesBy h.typing v z (All w)) (sym root) goes

    no_way : is_view h.typing y ≡ false → v.way y ≡ None
    no_way owner = by_way (v.way y) refl
      where
        by_way : (o : Option Way) → v.way y ≡ o → v.way y ≡ None
        by_way None e = e
        by_way (Some k) e = absurd (true_false (is_view s y) (holds.only y k e) owner)

    by_owner : is_view h.typing y ≡ false → Sees e n
    by_owner owner =
        let plain : sees (number_of w) ≡ false = ap sees root ∙ plain_sees s sees seeing y owner in
        let itself : expand v (All w) ≡ All w = stands_itself Home sees other v (All w) named (ap v.way root ∙ no_way owner)
        (λ p. seen_parts h sees seeing settled hands leaks m waits other facts v kept well holds alone live (number_of w) plain p) in
        record {
          from = w;
          from_named = named;
          called = called;
          way = expand v (All w);
          leads = refl;
          goes = goes_there;
          owners = stands_owners s sees h.frame v m (All w) holds named (inl (ap (is_view_formal s) root ∙ (neither (is_anonymous (view_of s y)) (is_view_formal s y) owner).1));
          reaches = reaches;
          low = inl (subst (Named Home) (sym itself) named);
          whole = lent_whole s sees h.frame other v (seen s m hands leaks) facts well alone w named plain (clears (sym (ap sees root) ∙ plain));
        }

    -- through a part of a formal
    by_part : is_bundle h.typing y ≡ true → Sees e n
    by_part bundle =
        let l = goes.1 bundle in
        let far = (formals_low.1 l.object l.steps l.way l.has).0 in record {
          from = w;
          from_named = named;
          called = called;
          way = expand v (All w);
          leads = refl;
          goes = goes_there;
          owners = part_owners s sees h.frame v m (All w) holds l;
          reaches = reaches;
          low = by_either far
              (λ at_home. (inl (subst (Named Home) (sym (in_part_way v (All w) l)) (named_on Home l.way l.rest at_home))))
              (λ (foreign, less, some). (inr (
                (foreign.0, foreign.1, ap base_of (in_part_way v (All w) l) ∙ base_on l.way l.rest ∙ foreign.2, foreign.3),
                (omega (arith, less)),
                some,
              )));
          whole = part_whole s sees h.frame other v (seen s m hands leaks) facts well alone (All w) l;
        }

    by_view : is_view h.typing y ≡ true → is_bundle h.typing y ≡ false → Sees e n
    by_view view bare = record {
      from = w;
      from_named = named;
      called = called;
      way = expand v (All w);
      leads = refl;
      goes = goes_there;
      owners = stands_owners s sees h.frame v m (All w) holds named (inr (goes.0 bare view).0);
      reaches = reaches;
      low = low_on (formals_low.0 y (goes.0 bare view).0.way has);
      whole = by_sees (sees y) refl;
    }
      where
        has : v.way y ≡ Some (goes.0 bare view).0.way
        has = subst (λ z. v.way z ≡ Some (goes.0 bare view).0.way) (goes.0 bare view).1 (goes.0 bare view).0.has

        low_on : IsLow s h.frame (goes.0 bare view).0.way → IsLow s h.frame (expand v (All w))
        low_on (inl at_home) =
            inl (subst (Named Home) (sym (lifted_way v (All w) (goes.0 bare view).0)) (named_on Home (goes.0 bare view).0.way (goes.0 bare view).0.rest at_home))
        low_on (inr (foreign, less, some)) = inr (
          (foreign.0, foreign.1, ap base_of (lifted_way v (All w) (goes.0 bare view).0) ∙ base_on (goes.0 bare view).0.way (goes.0 bare view).0.rest ∙ foreign.2, foreign.3),
          less,
          some,
        )

        by_sees : (b : Bool) → sees y ≡ b → (z : Way) → ExcusedBy (home h.typing h.frame) v other facts z → Meets z (expand v (All w)) → ⊥
        by_sees true sight = seen_whole s sees h.frame other v (seen s m hands leaks) facts well alone w named (goes.0 bare view).0 (ap sees (goes.0 bare view).1 ∙ sight)
        by_sees false plain = lent_whole s sees h.frame other v (seen s m hands leaks) facts well alone w named (ap sees root ∙ plain) (clears plain)

    by_bundle : is_view h.typing y ≡ true → (b : Bool) → is_bundle h.typing y ≡ b → Sees e n
    by_bundle view true bundle = by_part bundle
    by_bundle view false bare = by_view view bare

    pub sees_it : Sees e n
    sees_it = by_kind (is_view s y) refl
      where
        by_kind : (b : Bool) → is_view s y ≡ b → Sees e n
        by_kind false e = by_owner e
        by_kind true e = by_bundle e (is_bundle s y) refl

  not_scalar : (d : ℕ) (c n : Bool) → is_scalar (view_of_shape (shape.Access d c n)) ≡ true → ⊥
  not_scalar d c n e = absurd (false≢true e)

  cell_as : (d k n : ℕ) → Matches s.table d k → IsCell s m d n → IsCell s m k n
  cell_as d k n same these = let (some, low, fits) = these in (some, low, matches_on s.table d k (cell m n).of same fits)

  -- What the source has. It is of a type that designates what the type of the formal does.
  abbrev Designates : ℕ → ℕ → Type 0
  Designates x d = (k : ℕ) × (e : Bool) × (o : Bool) × (shape_of s.table (object_at s x).of ≡ shape.Access k e o) × Matches s.table d k

  from_source : (on : List (List machine.Word)) (p : Pos) (x y d u : ℕ) (path : TypedTree) → Designates x d
      → ((w : Way) → ways.name_of w ≡ name_of y path → sees y ≡ false → Cleared facts w)
      → (e : Evaluated (List machine.Word))
      → Quiet (at on) (λ ws. (w : Way) × Named Home w × (ways.name_of w ≡ name_of y path)
      × Shows h sees seeing settled hands leaks m waits other facts v kept well holds alone live index_law own_law parts_named y d w ws) e
      → Quiet (at on) (IsSeenAs x (Name p y path u)) e
  from_source on p x y d u path (k, c, n, is, designates) clears (Done ws now) (same, (w, named, called, shows)) = (
    same,
    (
      shows.word,
      shows.is,
      (λ d' c' n' j shape_is e. subst (λ z. IsCell s m z j) (same_designated k d' c n c' n' (sym is ∙ shape_is)) (cell_as d k j designates (shows.typed j e))),
      λ j e. sees_it (Name p y path u) y w called named (ap (λ (z : PlaceName). z.root) called) (λ plain. clears w called plain) j (shows.designated j e) (shows.goes j e),
    ),
  )
  from_source on p x y d u path designates clears (Raises e now) same = same
  from_source on p x y d u path designates clears (Traps e now) none = none

  source_access : (x u : ℕ) → IsAccess h.typing x → IsAccessAs h.typing u (object_at h.typing x).of → (d : ℕ) × (c : Bool) × (n : Bool) × (shape_of s.table u ≡ shape.Access d c n) × Designates x d
  source_access x u (k, e, o, is) (inl (inl same)) = (k, e, o, same ∙ is, (k, e, o, is, inl refl))
  source_access x u (k, e, o, is) (inl (inr scalar)) = absurd (not_scalar k e o (sym (ap (λ z. is_scalar (view_of_shape z)) is) ∙ scalar.1))
  source_access x u access (inr (d, c, n, k, e, o, of, is, designates)) = (d, c, n, of, (k, e, o, is, designates))

  at_same : {before on : List (List machine.Word)} → Takes 0 before on → at before ≡ at on
  at_same {before} {on} takes = ap at (takes_zero before on takes)

  -- what is passed for such a formal
  pub seen_given : (before on : List (List machine.Word)) (x : ℕ) (e : TypedTree) → IsAccess h.typing x → IsSeen h.typing x e → Takes (waits_in e) before on
      → AllowsAll facts (acts (index_acts h.typing e)) → IsClear h.typing sees facts e → Quiet (at on) (IsSeenAs x e) (viewed h e (at before))
  unfolding evaluate waits_in
  seen_given before on x typed.Null access seen_there takes allowed clears =
      (at_same takes, (machine.Null, refl, (λ d c n k is e. absurd (null_cell e)), λ n e. absurd (null_cell e)))
  seen_given before on x (Name p y path u) access (leads, fits) takes allowed clear =
      let of = source_access x u access fits in
      from_source on p x y of.0 u path of.4 clear (evaluate h AsView (Name p y path u) (at before))
      (source_on h sees seeing settled hands leaks m waits other facts v kept well holds alone live index_law own_law parts_named before on p y u of.0 of.1 of.2 path
      leads of.3 takes allowed clear)
  seen_given before on x e access never takes allowed clears = absurd never

  -- ---- a formal with parts

  -- A way to the cell with a number: what an access value in a part of the actual's place designates.
  pub record SeesPart (from : Way) (p : List Step) (n : ℕ) : Type 0 where
    pub way : Way
    pub leads : way ≡ expand v (All (along from p))
    pub goes : GoesBy h.typing v (number_of from) (All (along from p))
    pub owners : IsOwners h.typing way
    pub reaches : Reaches (seen h.typing m hands leaks) way (OfCell n)
    pub low : IsLow h.typing h.frame way
    pub whole : (z : Way) → ExcusedBy (home h.typing h.frame) v other facts z → Under z way ⊎ Under way z → ⊥

  -- What is passed for it: words of its type, and a way for each access value in them.
  pub record SeesParts (x : ℕ) (e : TypedTree) (ws : List machine.Word) : Type 0 where
    pub from : Way
    pub from_named : Named (home h.typing h.frame) from
    pub called : IsCalledBy e from
    pub fit : IsFit h.typing m (object_at h.typing x).of ws
    pub parts : (p : List Step) (d : ℕ) (c n : Bool) (k : ℕ) → has_part h.typing.table (object_at h.typing x).of p ≡ true
        → shape_of h.typing.table (type_in h.typing.table (object_at h.typing x).of p) ≡ shape.Access d c n
        → (get_or (fresh ws) (offset_in h.typing.table (object_at h.typing x).of p) no_slot).word ≡ machine.Cell k → SeesPart from p k

  -- a way that a name stands for is of the frame, or belongs to frames below
  low_there : (w : Way) → Named (home h.typing h.frame) w → IsLow h.typing h.frame (expand v w)
  low_there w named = elim (lifts v w) [
    | inl itself ↦ inl (subst (Named Home) (sym itself) named)
    | inr (inl l) ↦ low_on l.way l.rest (lifted_way v w l) (formals_low.0 l.object l.way l.has)
    | inr (inr l) ↦ low_on l.way l.rest (in_part_way v w l) (part_low l.way (formals_low.1 l.object l.steps l.way l.has).0)
  ]
    where
      part_low : (k : Way) → Lies h.typing h.frame k → IsLow h.typing h.frame k
      part_low k (inl at_home) = inl at_home
      part_low k (inr (foreign, less, some)) = inr (foreign, (omega (arith, less)), some)

      low_on : (k : Way) (rest : List Go) → expand v w ≡ on k rest → IsLow h.typing h.frame k → IsLow h.typing h.frame (expand v w)
      low_on k rest is (inl at_home) = inl (subst (Named Home) (sym is) (named_on Home k rest at_home))
      low_on k rest is (inr (foreign, less, some)) = inr ((foreign.0, foreign.1, ap base_of is ∙ base_on k rest ∙ foreign.2, foreign.3), less, some)

  named_in : (w : Way) (p : List Step) → Named (home h.typing h.frame) w → Named (home h.typing h.frame) (along w p)
  named_in w [] named = named
  named_in w (i ∷ p) named = named_in w p named

  -- the words of the actual are those of a value of the formal's type
  from_parts : (on : List (List machine.Word)) (p : Pos) (x y u : ℕ) (path : TypedTree) → Matches h.typing.table u (object_at h.typing x).of
      → is_bundle h.typing x ≡ true → (e : Evaluated (List machine.Word))
      → Quiet (at on) (λ ws. (w : Way) × Named Home w × (ways.name_of w ≡ name_of y path)
      × ShowsParts h sees seeing settled hands leaks m waits other facts v kept well holds alone live index_law own_law parts_named y u w ws) e
      → Quiet (at on) (SeesParts x (Name p y path u)) e
  from_parts on p x y u path fits bundle (Done ws now) (same, (w, named, called, shows)) = (
    same,
    record {
      from = w;
      from_named = named;
      called = called;
      fit = (
        shows.long ∙ matches_words s.table settled u (object_at s x).of fits,
        retyped_points s settled m u (object_at s x).of ws fits shows.points,
      );
      parts = λ p d c n k there is word. by_type fits p d c n k there is word;
    },
  )
    where
      by_type : Matches h.typing.table u (object_at h.typing x).of → (p : List Step) (d : ℕ) (c n : Bool) (k : ℕ) → has_part h.typing.table (object_at h.typing x).of p ≡ true
          → shape_of h.typing.table (type_in h.typing.table (object_at h.typing x).of p) ≡ shape.Access d c n
          → (get_or (fresh ws) (offset_in h.typing.table (object_at h.typing x).of p) no_slot).word ≡ machine.Cell k → SeesPart w p k
      by_type (inr both) p d c n k there is word =
          absurd (true_false (is_owning s.table (object_at s x).of) (bundle_owns s x bundle) (plain_type s own_law (object_at s x).of both.1))
      by_type (inl is_shape) p d c n k there is word =
          let same_part = same_below s.table settled u (object_at s x).of is_shape p in
          let shown = shows.parts p d c n k (same_part.2 ∙ there) (same_part.0 ∙ is) (ap (λ o. (get_or (fresh ws) o no_slot).word) same_part.1 ∙ word) in
          record {
            way = expand v (All (along w p));
            leads = refl;
            goes = subst (λ z. GoesBy s v z (All (along w p))) (sym (ap (λ (z : PlaceName). z.root) called)) shown.goes;
            owners = shown.owners;
            reaches = shown.reaches;
            low = low_there (All (along w p)) (named_in w p named);
            whole = shown.whole;
          }
  from_parts on p x y u path fits bundle (Raises e now) same = same
  from_parts on p x y u path fits bundle (Traps e now) none = none

  -- the type of such a formal
  bundle_source : (x u : ℕ) → is_bundle h.typing x ≡ true → IsAccessAs h.typing u (object_at h.typing x).of
      → Matches h.typing.table u (object_at h.typing x).of × ((d : ℕ) (c n : Bool) → shape_of h.typing.table u ≡ shape.Access d c n → ⊥)
  bundle_source x u bundle (inr (d, c, n, k, e, o, of, is, designates)) = absurd (bundle_access s x k e o bundle is)
  bundle_source x u bundle (inl (inl same)) = (inl same, λ d c n is. bundle_access s x d c n bundle (sym same ∙ is))
  bundle_source x u bundle (inl (inr scalar)) =
      absurd (true_false (is_owning s.table (object_at s x).of) (bundle_owns s x bundle) (plain_type s own_law (object_at s x).of scalar.1))

  -- what is passed for a formal with parts
  pub parts_given : (before on : List (List machine.Word)) (x : ℕ) (e : TypedTree) → is_bundle h.typing x ≡ true → IsSeen h.typing x e → Takes (waits_in e) before on
      → AllowsAll facts (acts (index_acts h.typing e)) → IsClear h.typing sees facts e → Quiet (at on) (SeesParts x e) (viewed h e (at before))
  unfolding evaluate waits_in
  parts_given before on x typed.Null bundle bare takes allowed clears = absurd (true_false (is_bundle s x) bundle bare)
  parts_given before on x (Name p y path u) bundle (leads, fits) takes allowed clear =
      let of = bundle_source x u bundle fits in
      from_parts on p x y u path of.0 bundle (evaluate h AsView (Name p y path u) (at before))
      (parts_on h sees seeing settled hands leaks m waits other facts v kept well holds alone live index_law own_law parts_named before on p y u path leads of.1 takes allowed clear)
  parts_given before on x e bundle never takes allowed clears = absurd never
