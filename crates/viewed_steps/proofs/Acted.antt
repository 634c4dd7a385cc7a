-- Where what is passed for actuals is laid out, and what the acts of the call do there.
use Rattle.std.proofs.Common.{◌≡◌, refl, ◌&&◌, sym, ap, ◌∙◌, subst, inl, inr, ℕ, Bool, true, false, List, [], ◌∷◌, ◌++◌, Option, Some, None}
use Rattle.std.proofs.lemmas.Bool.{false≢true}
use Rattle.soundness.proofs.Lists.{Has-append_left, Has-append_right}
use Rattle.machine.specs.spark_base.declared.position.Pos.{Pos}
use Rattle.machine.specs.place_names.declared.act.Act.TheVariants as act
use Rattle.machine.specs.place_names.declared.act.Mode.{Mode}
use Rattle.machine.specs.place_names.declared.act.Mode.TheVariants as mode
use Rattle.machine.specs.place_names.declared.act.Placed.{Placed}
use Rattle.machine.specs.place_names.declared.fact.Fact.{Fact}
use Rattle.machine.specs.place_names.Facts.{adds, effect}
use Rattle.machine.specs.type_definitions.Types.{full, is_scalar, is_owning}
use Rattle.machine.specs.typed_tree.Trees.{TypedTree, Name, More}
use Rattle.machine.specs.flow_paths.Objects.{object_at, is_named_access, view_of, Passing, passing_by}
use Rattle.machine.specs.flow_paths.Names.{Written, written, name_of}
use Rattle.machine.specs.flow_paths.Acts.{naming, actual_act, actual_acts}
use Rattle.machine.specs.Words as machine
use Rattle.machine.specs.Memory.{Memory, Place}
use Rattle.machine.specs.Evaluate.{Here}
use Rattle.machine.specs.Calls.{Passed, Value, From, To, passed}
use Rattle.machine.specs.States.{Waiting, Leak}
use Rattle.soundness.specs.OwnedWays.Ways.{Step, OfVariable, Loc, Way, Object, Empty, Named, Under, Reaches, after, part, Gone}
use Rattle.soundness.specs.OwnedWays.Ways as ways
use Rattle.soundness.specs.PartOffsets.Parts.{type_in, IsSettled}
use Rattle.soundness.specs.Seen.{IsNear, Content, content, trunk, steps_in, seen, home}
use Rattle.soundness.specs.Typed.{OwnsByShape, Kept, Spot}
use Rattle.soundness.specs.TypedLaws.Needed.{IndexLaw}
use Rattle.soundness.proofs.Contents.{word_no, word_part}
use Rattle.soundness.proofs.Joined.{leaf_join}
use Rattle.soundness.proofs.Steps.{no_leaf}
use Rattle.soundness.proofs.Fixed.{matches_scalar}
use Rattle.soundness.proofs.Scalars.{acts, acts_append, after_append, read_effect}
use Rattle.soundness.specs.OwnedLoans.Views.{Around, Views, Viewed, expand, way_at}
use Rattle.soundness.specs.ViewedSoundness.Holds.{PartsAreNamed, Holds, is_view, IsOwners, Seeing}
use Rattle.soundness.proofs.ViewedSoundness.ViewKinds.{bundle_view, plain_sees, true_false}
use Rattle.soundness.proofs.ViewedSoundness.Names.{seen_parts}
use Rattle.viewed_steps.proofs.Views.{AreAccess, AreLowFormals}
use Rattle.viewed_steps.proofs.Emptied.{out_left, taken_back}
use Rattle.viewed_steps.proofs.Outs.{Out, IsUnderOne}
use Rattle.viewed_steps.proofs.LaidOut.{IsValueLaid, IsPlainAt, IsPlaceLaid, IsBackLaid, IsLaidOne, AreLaidOut, place_out, back_out, out_of, outs_of, IsOwnPut, IsHoused, own_out}
use Rattle.viewed_steps.proofs.Called as called
use Rattle.viewed_steps.proofs.Puts as puts
use Rattle.viewed_steps.proofs.Called.{way_to}
use Rattle.viewed_steps.proofs.Between.{OwnersStand}
use Rattle.viewed_steps.proofs.Entered.{own_named, own_number, own_itself, own_plain}
use Rattle.soundness.proofs.OwnedLoans.Moves.{IsPlace, expand_under}
use Rattle.soundness.proofs.OwnedWays.Assigned.{is_false, kept_fact}
use Rattle.soundness.proofs.OwnedWays.Named.{covered_under, longer}
use Rattle.machine.specs.place_names.Names.{Name as PlaceName, covers}
use Rattle.machine.specs.place_names.declared.fact.Fact.TheVariants.{Moved}
use Rattle.viewed_steps.proofs.Released.{ends_there}
use Rattle.viewed_steps.proofs.Constructors.{is_empty_word}
use Rattle.soundness.proofs.Parted.{by_either}

module _ (h : Here) (sees : ℕ → Bool) (seeing : Seeing h.typing sees) (settled : IsSettled h.typing.table) (hands : List Waiting) (leaks : List Leak) (m : Memory) (waits : List (List machine.Word))
    (other : Around (home h.typing h.frame)) (facts : List Fact) (v : Views)
    (kept : Kept h.typing m hands)
    (well : Viewed (home h.typing h.frame) sees other v (seen h.typing m hands leaks) facts)
    (holds : Holds h.typing sees h.frame v m)
    (alone : (w : Way) → IsNear h.frame w → other.gone w → ⊥)
    (live : (w : Way) (l : Loc) → IsOwners h.typing w → Reaches (seen h.typing m hands leaks) w l → (content h.typing m hands (trunk l)).owns ≡ true)
    (in_formals : AreAccess h.typing)
    (index_law : IndexLaw)
    (own_law : OwnsByShape h.typing.table)
    (parts_named : PartsAreNamed h.typing.table)
    (formals_low : AreLowFormals h.typing h.frame v)
    (procedure : Bool) where
  abbrev ways_of : List ℕ → List Passing
  ways_of = called.ways_of h sees seeing settled hands leaks m waits other facts v kept well holds alone live in_formals index_law own_law parts_named formals_low procedure

  abbrev plain_type_at : (e : TypedTree) (k : Place) → IsPlainAt h.typing sees h.frame v (seen h.typing m hands leaks) e k → is_scalar (full h.typing.table k.of) ≡ true
  plain_type_at = puts.plain_type_at h sees seeing settled hands leaks m waits other facts v kept well holds alone live in_formals index_law own_law parts_named formals_low procedure

  abbrev IsPlaceGiven : ℕ → TypedTree → Place → Type 0
  IsPlaceGiven = called.IsPlaceGiven h sees seeing settled hands leaks m waits other facts v kept well holds alone live in_formals index_law own_law parts_named formals_low procedure

  abbrev IsBackGiven : ℕ → TypedTree → Place → Type 0
  IsBackGiven = called.IsBackGiven h sees seeing settled hands leaks m waits other facts v kept well holds alone live in_formals index_law own_law parts_named formals_low procedure

  abbrev IsValueGiven : ℕ → TypedTree → List machine.Word → Type 0
  IsValueGiven = called.IsValueGiven h sees seeing settled hands leaks m waits other facts v kept well holds alone live in_formals index_law own_law parts_named formals_low procedure

  abbrev IsGiven : ℕ → Mode → TypedTree → Passed → Type 0
  IsGiven = called.IsGiven h sees seeing settled hands leaks m waits other facts v kept well holds alone live in_formals index_law own_law parts_named formals_low procedure

  abbrev AreGiven : List ℕ → TypedTree → List Passed → Type 0
  AreGiven = called.AreGiven h sees seeing settled hands leaks m waits other facts v kept well holds alone live in_formals index_law own_law parts_named formals_low procedure

  abbrev pub value_laid : (x : ℕ) (e : TypedTree) (ws : List machine.Word) → IsValueGiven x e ws → IsValueLaid h.typing m x ws
  value_laid x e ws given = (
    given.0,
    λ own bare. (let seen_as = given.1 own bare in (seen_as.0, seen_as.1, seen_as.2)),
    λ bundle. (given.2 bundle).fit,
  )

  abbrev pub place_laid : (x : ℕ) (e : TypedTree) (k : Place) → IsPlaceGiven x e k → IsPlaceLaid h.typing sees h.frame v (seen h.typing m hands leaks) x e k
  place_laid x e k (inl (plain, put)) = inl (plain, put.0)
  place_laid x e k (inr own) = inr own

  abbrev pub back_laid : (x : ℕ) (e : TypedTree) (k : Place) → IsBackGiven x e k → IsBackLaid h.typing sees h.frame v (seen h.typing m hands leaks) x e k
  back_laid x e k (inl put) = inl (place_laid x e k put)
  back_laid x e k (inr housed) = inr housed

  abbrev pub laid_one : (x : ℕ) (mode_of : Mode) (e : TypedTree) (a : Passed) → IsGiven x mode_of e a → IsLaidOne h.typing sees m h.frame v (seen h.typing m hands leaks) x mode_of e a
  laid_one x mode.In e (Value ws) is = value_laid x e ws is
  laid_one x mode.In e (From k) is = absurd is
  laid_one x mode.In e (To k) is = absurd is
  laid_one x mode.Out e (Value ws) is = absurd is
  laid_one x mode.Out e (From k) is = absurd is
  laid_one x mode.Out e (To k) is = back_laid x e k is
  laid_one x mode.InOut e (Value ws) is = absurd is
  laid_one x mode.InOut e (From k) is = back_laid x e k is
  laid_one x mode.InOut e (To k) is = absurd is

  abbrev pub all_laid_out : (formals : List ℕ) (actuals : TypedTree) (passed : List Passed) → AreGiven formals actuals passed → AreLaidOut h.typing sees m h.frame v (seen h.typing m hands leaks) formals actuals passed
  all_laid_out (x ∷ formals) (More e rest) (a ∷ passed) are = (laid_one x (object_at h.typing x).mode e a are.0, all_laid_out formals rest passed are.1)
  all_laid_out (x ∷ formals) (More e rest) [] are = absurd are
  all_laid_out [] actuals passed are = are
  all_laid_out (x ∷ formals) actuals passed are = are

  -- a formal with parts that see only sees
  bare : (z : ℕ) → sees z ≡ false → (p : List ways.Step) → v.part_way z p ≡ None
  bare z plain p = seen_parts h sees seeing settled hands leaks m waits other facts v kept well holds alone live z plain p

  -- ---- what the facts say then

  plain_there : (k : Place) (l : Loc) → Spot h.typing m hands k l → is_scalar (full h.typing.table k.of) ≡ true → (p : List Step)
      → (seen h.typing m hands leaks).word (part l p) ≡ Empty
  plain_there k l spot plain p =
      let c : Content = content h.typing m hands (trunk l) in
      word_part h.typing.table (content h.typing m hands) l p
      ∙ word_no h.typing.table c (p ++ steps_in l)
      (leaf_join h.typing.table c.of (steps_in l) p spot.there
      ∙ no_leaf h.typing.table settled (type_in h.typing.table c.of (steps_in l)) (matches_scalar h.typing k.of (type_in h.typing.table c.of (steps_in l)) spot.of plain) p)

  naming_sees : (w : Option Written) (owning access : Bool) (known : List Fact) → after (acts (naming w (λ k. act.Actual k mode.In owning access))) known ≡ known
  naming_sees None owning access known = refl
  naming_sees (Some w) owning access known = read_effect w.name known

  naming_keeps : (w : Option Written) (owning access : Bool) (known : List Fact) → after (acts (naming w (λ k. act.Actual k mode.InOut owning access))) known ≡ known
  naming_keeps None owning access known = refl
  naming_keeps (Some w) owning access known = read_effect w.name known

  -- Of a place that is emptied, what is under it is gone elsewhere, since the facts say no more that it was moved.

  module _ (gone : Way → Type 0) where
    abbrev StandsWith : List Fact → Type 0
    StandsWith known = OwnersStand (home h.typing h.frame) v known gone (seen h.typing m hands leaks)

    -- what is under them is gone
    abbrev pub AreGone : List Out → Type 0
    AreGone outs = (w : Way) → IsUnderOne outs w → gone w

    own_acted : (owning access : Bool) (p : Pos) (y : ℕ) (path : TypedTree) (k : Place) (known : List Fact) (to name : Way) → Named (home h.typing h.frame) name
        → sees (ways.number_of name) ≡ false → IsPlace v name → expand v name ≡ to → ways.name_of name ≡ name_of y path
        → AreGone (record { way = to; place = k; pos = p } ∷ []) → StandsWith known → StandsWith (effect (act.Actual (name_of y path) mode.Out owning access) known)
    own_acted owning access p y path k known to name named plain place means called adds there =
        subst (λ z. StandsWith (effect (act.Actual z mode.Out owning access) known)) called
        (taken_back (home h.typing h.frame) v gone gone (seen h.typing m hands leaks) (expand v name) known
        (effect (act.Actual (ways.name_of name) mode.Out owning access) known) there
        (out_left (home h.typing h.frame) v known name owning access named place (bare (ways.number_of name) plain))
        (λ w o. o) (λ w under. adds w (record { way = to; place = k; pos = p }, inl refl, subst (λ z. Under z w) means under)))

    -- the way of a place in a variable is its name
    variable_acted : (owning access : Bool) (x : ℕ) (p : Pos) (y u : ℕ) (path : TypedTree) (k : Place) (known : List Fact) → (own : IsOwnPut h.typing h.frame x (Name p y path u) k)
        → AreGone (own_out h.typing h.frame x (Name p y path u) k own) → StandsWith known
        → StandsWith (effect (act.Actual (name_of y path) mode.Out owning access) known)
    variable_acted owning access x p y u path k known (to, inside, called, is, fits, own) adds there =
        own_acted owning access p y path k known to to (own_named h.typing settled h.frame k to inside own)
        (ap sees (own_number h.typing settled h.frame k to inside own) ∙ plain_sees h.typing sees seeing inside.object none_here)
        (λ r is_root. no_way r (own_number h.typing settled h.frame k to inside own) is_root) (own_itself h.typing settled h.frame k to inside own v holds.only (λ z q w has. bundle_view h.typing z (holds.parts.only z q w has))) called adds there
      where
        none_here : is_view h.typing inside.object ≡ false
        none_here = own_plain h.typing settled h.frame k to inside own

        no_way : (r : ways.Root) → ways.number_of to ≡ inside.object → to ≡ ways.Object r → way_at v r ≡ None
        no_way (ways.OfHand h') number root = refl
        no_way (ways.OfVariable f z) number root = by_way (v.way z) refl
          where
            same : inside.object ≡ z
            same = sym number ∙ ap ways.number_of root

            by_way : (o : Option Way) → v.way z ≡ o → v.way z ≡ None
            by_way None e = e
            by_way (Some w) e = absurd (true_false (is_view h.typing z) (holds.only z w e) (ap (is_view h.typing) (sym same) ∙ none_here))

    -- a name of a place in a cell is no view by itself
    housed_place : (x y : ℕ) (path : TypedTree) (k : Place) → (h' : IsHoused h.typing sees h.frame v (seen h.typing m hands leaks) x y path k) → IsPlace v h'.name
    housed_place x y path k h' r is = absurd (h'.deep r (subst (λ z. h'.front ≡ z) is (only_front h'.front h'.name r is h'.begins)))
      where
        only_front : (a b : Way) (r : ways.Root) → b ≡ ways.Object r → Under a b → a ≡ b
        only_front a b r is under = subst (λ z. Under a z → a ≡ z) (sym is) (λ e. e) under

    -- an act that writes a place without access parts
    nothing_stands : (w : Way) (l : Loc) (known : List Fact) → Named (home h.typing h.frame) w → sees (ways.number_of w) ≡ false → IsPlace v w
        → Reaches (seen h.typing m hands leaks) (expand v w) l → ((p : List Step) → (seen h.typing m hands leaks).word (part l p) ≡ Empty) → StandsWith known
        → StandsWith (effect (act.Write (ways.name_of w)) known)
    nothing_stands w l known named plain place reaches empty there = record {
      owned = there.owned;
      covered = there.covered;
      known = λ z at rooted r is. by_either (there.known z at rooted r is)
          (λ (u, moved, leads). (inl (
            u,
            (
              moved.0,
              kept_fact (act.Write (ways.name_of w)) known (Moved (ways.name_of u)) moved.1
                  (is_false (covers (ways.name_of w) (ways.name_of u)) (λ e. (
                  let below = covered_under (home h.typing h.frame) w u named moved.0 e in
                  let under = subst (Under (expand v w)) leads (expand_under v w u place (bare (ways.number_of u) (ap sees (longer w u below).root ∙ plain)) below) in
                  let b = ends_there (seen h.typing m hands leaks) (expand v w) l reaches empty z at r under in
                  let no : Gone ≡ Empty = sym is ∙ ap (seen h.typing m hands leaks).word b.1 ∙ empty b.0 in absurd (false≢true (ap is_empty_word no))))),
            ),
            leads,
          )))
          (λ o. (inr o));
    }

    place_acted : (owning access : Bool) (x : ℕ) (e : TypedTree) (k : Place) (known : List Fact) → (given : IsPlaceGiven x e k)
        → AreGone (place_out h.typing sees h.frame v (seen h.typing m hands leaks) x e k (place_laid x e k given)) → StandsWith known
        → StandsWith (after (acts (actual_act (passing_by mode.Out owning access) e)) known)
    place_acted owning access x (Name p y path u) k known (inl (plain, (at_place, (w, l, named, called, place, reaches, spot, sight)))) adds there =
        subst (λ z. StandsWith (effect (act.Write z) known)) called
        (nothing_stands w l known named (ap (λ (z : PlaceName). sees z.root) called ∙ sight) place reaches
        (plain_there k l spot (plain_type_at (Name p y path u) k at_place)) there)
    place_acted owning access x (Name p y path u) k known (inr (many, own)) adds there = variable_acted owning access x p y u path k known own adds there
    place_acted owning access x e k known (inl (plain, (fixed, never))) adds there = absurd never
    place_acted owning access x e k known (inr (many, never)) adds there = absurd never

    back_acted : (owning access : Bool) (x : ℕ) (e : TypedTree) (k : Place) (known : List Fact) → (given : IsBackGiven x e k)
        → AreGone (back_out h.typing sees h.frame v (seen h.typing m hands leaks) x e k (back_laid x e k given)) → StandsWith known
        → StandsWith (after (acts (actual_act (passing_by mode.Out owning access) e)) known)
    back_acted owning access x e k known (inl given) adds there = place_acted owning access x e k known given adds there
    back_acted owning access x (Name p y path u) k known (inr (many, housed)) adds there =
        own_acted owning access p y path k known housed.to housed.name housed.named (ap (λ (z : PlaceName). sees z.root) housed.called ∙ housed.plain)
        (housed_place x y path k housed) housed.means housed.called adds there
    back_acted owning access x e k known (inr (many, never)) adds there = absurd never

    pub head_acted : (mode_of : Mode) (owning access : Bool) (x : ℕ) (e : TypedTree) (a : Passed) (known : List Fact)
        → (given : IsGiven x mode_of e a) → AreGone (out_of h.typing sees m h.frame v (seen h.typing m hands leaks) x mode_of e a (laid_one x mode_of e a given)) → StandsWith known
        → StandsWith (after (acts (actual_act (passing_by mode_of owning access) e)) known)
    head_acted mode.In false access x e a known is adds there = there
    head_acted mode.In true access x e a known is adds there = subst StandsWith (sym (naming_sees (written e) true access known)) there
    head_acted mode.InOut owning access x e a known is adds there = subst StandsWith (sym (naming_keeps (written e) owning access known)) there
    head_acted mode.Out owning access x e (To k) known is adds there = back_acted owning access x e k known is adds there
    head_acted mode.Out owning access x e (Value ws) known is adds there = absurd is
    head_acted mode.Out owning access x e (From k) known is adds there = absurd is

    pub all_acted : (formals : List ℕ) (actuals : TypedTree) (passed : List Passed) (known : List Fact)
        → (given : AreGiven formals actuals passed) → AreGone (outs_of h.typing sees m h.frame v (seen h.typing m hands leaks) formals actuals passed (all_laid_out formals actuals passed given)) → StandsWith known
        → StandsWith (after (acts (actual_acts (ways_of formals) actuals)) known)
    all_acted (x ∷ formals) (More e rest) (a ∷ passed) known are adds there =
        let first : List Placed = actual_act (way_to h.typing own_law procedure x) e in
        let others : List Placed = actual_acts (ways_of formals) rest in
        let out : List Out = out_of h.typing sees m h.frame v (seen h.typing m hands leaks) x (object_at h.typing x).mode e a (laid_one x (object_at h.typing x).mode e a are.0) in
        let outs : List Out = outs_of h.typing sees m h.frame v (seen h.typing m hands leaks) formals rest passed (all_laid_out formals rest passed are.1) in
        subst StandsWith (sym (ap (λ z. after z known) (acts_append first others) ∙ after_append (acts first) (acts others) known))
        (all_acted formals rest passed (after (acts first) known) are.1
        (λ w under. adds w (under.0, Has-append_right out outs under.0 under.1, under.2))
        (head_acted (object_at h.typing x).mode (is_owning h.typing.table (object_at h.typing x).of) (procedure && is_named_access (view_of h.typing x)) x e a known
        are.0
        (λ w under. adds w (under.0, Has-append_left out outs under.0 under.1, under.2)) there))
    all_acted (x ∷ formals) (More e rest) [] known are adds there = absurd are
    all_acted [] actuals passed known are adds there = there
    all_acted (x ∷ formals) actuals passed known are adds there = there
