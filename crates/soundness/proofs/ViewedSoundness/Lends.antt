-- What declarations of borrowers and observers and assignments to them lead to: the view gets what
-- its source has, and its way from it.
use Rattle.std.proofs.Common.{◌≡◌, refl, sym, ap, ◌∙◌, subst, ◌⊎◌, inl, inr, ℕ, ◌<◌, Bool, true, false, not, ◌||◌, List, [], ◌∷◌, ◌++◌, flat_map, take, drop, length, Option, Some, None, if◌then◌else◌, ◌==◌, eqb-true, eq-eqb, ◌+◌, append-nil, arith, is_some}
use Rattle.machine.specs.spark_base.declared.position.Pos.{Pos}
use Rattle.soundness.proofs.Contents.{bool_cases}
use Rattle.machine.specs.place_names.declared.act.Act.{Act}
use Rattle.machine.specs.place_names.declared.act.Act.TheVariants as act
use Rattle.machine.specs.place_names.declared.fact.Fact.{Fact}
use Rattle.machine.specs.place_names.Names.{Name as PlaceName}
use Rattle.machine.specs.place_names.Facts.{adds, removes, effect}
use Rattle.machine.specs.type_definitions.declared.table.Shape.TheVariants as shape
use Rattle.machine.specs.type_definitions.Types.{Table, shape_of, words, words_of as shape_words, full, is_scalar, view_of as view_of_shape, parts, parts_of}
use Rattle.machine.specs.typed_tree.Trees.{TypedTree, Name, NoMore, More}
use Rattle.machine.specs.flow_paths.Objects.{Typing, object_at, is_anonymous, is_borrower, is_observer, view_of}
use Rattle.machine.specs.flow_paths.Names.{waiting as waits_in, name_of, written, source}
use Rattle.machine.specs.flow_paths.Scopes.{taken}
use Rattle.machine.specs.flow_paths.Acts.{acts_in, stored_acts, declared_acts, assigned_to, source_acts, index_acts, reborrow, observe, target_pos as acts_target_pos}
use Rattle.machine.specs.Words as machine
use Rattle.machine.specs.Memory.{Memory, cell, stored, declared, Slot, fresh, variable_slots, Place, slots_at}
use Rattle.machine.specs.Evaluate.{Now, AsView, Evaluated, Done, Raises, Traps, followed_by, evaluate, checked, value, viewed, place_of, steps_of}
use Rattle.machine.specs.Evaluate as run
use Rattle.machine.specs.Memory as memory
use Rattle.machine.specs.Calls.{checks_at, checked_at}
use Rattle.machine.specs.States.{Waiting, State, Outcome}
use Rattle.machine.specs.Step.{Turn, typing, here, Stored, first_value, taken_by, goes, behind, leaking_goes, target_pos}
use Rattle.machine.specs.Step as steps
use Rattle.machine.specs.Owners.{waiting_in}
use Rattle.soundness.specs.OwnedWays.Ways.{Loc, Way, All, Reaches, Under, Named, Allows, after, AllowsAll, number_of, base_of, OfRoot}
use Rattle.soundness.specs.OwnedWays.Ways as ways
use Rattle.soundness.specs.PartOffsets.Parts.{IsSettled}
use Rattle.soundness.specs.Seen.{IsNear, content, trunk, seen, home, is_view_formal}
use Rattle.soundness.specs.Changes.{leaks_at}
use Rattle.soundness.specs.Typed.{Matches, IsCell, OwnsByShape, Kept}
use Rattle.soundness.specs.TypedLaws.Needed.{Leads as LeadsTo}
use Rattle.soundness.proofs.Contents.{all_checks}
use Rattle.soundness.proofs.OwnedLoans.Clear.{clear_same}
use Rattle.machine.specs.spark_base.Lists.{Has}
use Rattle.spark_base.proofs.Lists.{Has-append_right}
use Rattle.std.specs.Prelude.{filter}
use Rattle.std.proofs.lemmas.Bool.{false≢true, true≢false}
use Rattle.machine.specs.place_names.declared.fact.Fact.TheVariants.{Moved, Lent}
use Rattle.machine.specs.place_names.declared.rule.Loan.TheVariants.{Observed}
use Rattle.soundness.proofs.OwnedWays.Assigned.{kept_fact}
use Rattle.machine.specs.place_names.declared.selector.Sel.{Sel}
use Rattle.soundness.proofs.Numbers.{index_law}
use Rattle.soundness.proofs.Scalars.{acts, acts_append, after_append, allows_both}
use Rattle.soundness.proofs.Stays.{Quiet}
use Rattle.soundness.proofs.Taking.{Takes}
use Rattle.soundness.specs.OwnedLoans.Views.{Go, on, Around, Views, expand, Viewed, Becomes, Unused, with_view, Lifted, InPart}
use Rattle.soundness.proofs.OwnedLoans.Allowed.{Cleared, borrow_clears, observe_clears, loan_kept, reborrow_clears}
use Rattle.soundness.proofs.OwnedWays.Dropped.{named_base}
use Rattle.soundness.proofs.OwnedLoans.Ways.{part_root, next_of, lifts, lifted_root, lifted_way, root_on, named_on, base_on, on_named, on_under, in_part_way}
use Rattle.soundness.proofs.OwnedLoans.Taken.{becomes_with, Leaves, observe_leaves, borrow_leaves, reborrow_leaves}
use Rattle.soundness.proofs.OwnedLoans.Taken as lent
use Rattle.soundness.specs.ViewedSoundness.Holds.{PartsAreNamed, is_view, is_bundle, IsOwners, Holds, is_given, Seeing, GoesBy}
use Rattle.soundness.proofs.ViewedSoundness.ViewKinds.{either_true, observer_sees, sees_view, true_false, anonymous_bundle}
use Rattle.soundness.proofs.ViewedSoundness.Stays.{steps_taking}
use Rattle.soundness.proofs.ViewedSoundness.Viewing.{IsReached, IsOfType, way_from, number_in, borrower_declared, observer_stored, part_seen, view_again, view_emptied, borrower_stored}
use Rattle.soundness.proofs.ViewedSoundness.Sources.{Shows, source_on}
use Rattle.soundness.proofs.ViewedSoundness.Outcomes.{IsGood, IsSame, Comes, Turned, Leads_on, raises, goes_to, goes_on, live}
use Rattle.soundness.proofs.Parted.{int_cell, position_cell, null_cell}

-- ---- what matches one type

scalar_on : (table : Table) (a b : ℕ) → shape_of table a ≡ shape_of table b → is_scalar (full table a) ≡ true → is_scalar (full table b) ≡ true
scalar_on table a b e p = sym (ap (λ z. is_scalar (view_of_shape z)) e) ∙ p

pub matches_on : (table : Table) (a b c : ℕ) → Matches table a b → Matches table a c → Matches table b c
matches_on table a b c (inl e) (inl f) = inl (sym e ∙ f)
matches_on table a b c (inl e) (inr g) = inr (scalar_on table a b e g.0, g.1)
matches_on table a b c (inr e) (inl f) = inr (e.1, scalar_on table a c f e.0)
matches_on table a b c (inr e) (inr g) = inr (e.1, g.1)

-- ---- views

same_some : (a b : Way) → Some a ≡ Some b → a ≡ b
same_some a b e = cc

way_of : (z : machine.Word) (w k : Way) → way_from z w ≡ Some k → k ≡ w
way_of (machine.Cell n) w k e = sym (same_some w k e)
way_of (machine.Int n) w k e = absurd (false≢true (ap is_some e))
way_of (machine.Enumerated n) w k e = absurd (false≢true (ap is_some e))
way_of machine.Null w k e = absurd (false≢true (ap is_some e))

in_word : (z : machine.Word) (w k : Way) → way_from z w ≡ Some k → (n : ℕ) × (z ≡ machine.Cell n)
in_word (machine.Cell n) w k e = (n, refl)
in_word (machine.Int n) w k e = absurd (false≢true (ap is_some e))
in_word (machine.Enumerated n) w k e = absurd (false≢true (ap is_some e))
in_word machine.Null w k e = absurd (false≢true (ap is_some e))

same_designated : (k d : ℕ) (e o c n : Bool) → shape.Access k e o ≡ shape.Access d c n → k ≡ d
same_designated k d e o c n is = cc

module _ (t : Turn) (sees : ℕ → Bool) (seeing : Seeing (typing t) sees) (settled : IsSettled (typing t).table) (own_law : OwnsByShape (typing t).table) (other : Around (home (typing t) (length t.outer)))
    (alone : (w : Way) → IsNear (length t.outer) w → other.gone w → ⊥)
    (v : Views) (parts_named : PartsAreNamed (typing t).table) (may : ℕ → ℕ → Type 0)
    (frames : t.state.frames ≡ t.frame ∷ t.outer) (none : taken t.point.instr ≡ 0) where
  abbrev s : Typing
  s = typing t

  abbrev depth : ℕ
  depth = length t.outer

  abbrev hands : List Waiting
  hands = waiting_in t.state

  abbrev m : Memory
  m = t.state.memory

  abbrev now : Now
  now = record { memory = m; waits = [] }

  -- with these values, which the instruction takes
  abbrev at : List (List machine.Word) → Now
  at ws = record { memory = m; waits = ws }

  abbrev Good : Views → List Fact → State → Type 0
  Good views facts state = IsGood t sees seeing settled own_law other alone v parts_named may frames none views facts state

  abbrev Turned_here : Views → List Fact → Type 0
  Turned_here views facts = Turned t sees seeing settled own_law other alone v parts_named may frames none views facts

  abbrev Comes_here : Views → List Fact → ℕ → ℕ → Way → Type 0
  Comes_here views facts x y w = Comes t sees seeing settled own_law other alone v parts_named may frames none views facts x y w

  abbrev Same_here : Views → ℕ → Type 0
  Same_here views x = IsSame t sees seeing settled own_law other alone v parts_named may frames none views x

  abbrev Leads_here : List Fact → Outcome → Type 0
  Leads_here facts outcome = Leads_on t sees seeing settled own_law other alone v parts_named may frames none facts outcome

  abbrev alive : (facts : List Fact) (good : Good v facts t.state) → (w : Way) (l : Loc) → IsOwners s w → Reaches (seen s m hands t.state.leaks) w l
      → (content s m hands (trunk l)).owns ≡ true
  alive = live t sees seeing settled own_law other alone v parts_named may frames none

  -- ---- what a view may get

  -- The state of the memory afterwards, with the variable of the view.
  abbrev pub Got : Views → ℕ → machine.Word → List Fact → Type 0
  Got views x z facts =
      Viewed (home s depth) sees other views (seen s (declared depth x (z ∷ []) m) hands t.state.leaks) facts
      × Kept s (declared depth x (z ∷ []) m) hands × Holds s sees depth views (declared depth x (z ∷ []) m) × Turned_here views facts

  -- the root of what a name stands for that is rooted in an object
  abbrev Has_root : ℕ → ℕ → Way → Type 0
  Has_root x y w =
      ((base_of w ≡ OfRoot (ways.OfVariable (home s depth y) y)) × (y ≡ x → ⊥))
      ⊎ (((k : Way) × (v.way y ≡ Some k) × (base_of w ≡ base_of k)) ⊎ ((p : List ways.Step) × (k : Way) × (v.part_way y p ≡ Some k) × (base_of w ≡ base_of k)))

  lifted_from : (x y : ℕ) (u : Way) → number_of u ≡ y → Lifted v u → Has_root x y (expand v u)
  lifted_from x y u root l = inr (inl (
    l.way,
    subst (λ z. v.way z ≡ Some l.way) (sym (lifted_root v u l) ∙ root) l.has,
    ap base_of (lifted_way v u l) ∙ base_on l.way l.rest,
  ))

  part_from : (x y : ℕ) (u : Way) → number_of u ≡ y → InPart v u → Has_root x y (expand v u)
  part_from x y u root l = inr (inr (
    l.steps,
    l.way,
    subst (λ z. v.part_way z l.steps ≡ Some l.way) (sym (part_root v u l) ∙ root) l.has,
    ap base_of (in_part_way v u l) ∙ base_on l.way l.rest,
  ))

  root_from : (x y : ℕ) (u : Way) → Named (home s depth) u → number_of u ≡ y → (y ≡ x → ⊥) → ((p : List ways.Step) → v.part_way y p ≡ None) → Has_root x y (expand v u)
  root_from x y u named root apart bare = elim (lifts v u) [
    | inl e ↦ inl (ap base_of e ∙ named_base (home s depth) u named ∙ ap (λ z. OfRoot (ways.OfVariable (home s depth z) z)) root, apart)
    | inr (inl l) ↦ lifted_from x y u root l
    | inr (inr l) ↦ (let is : Some l.way ≡ None = sym l.has ∙ ap (λ z. v.part_way z l.steps) (sym (part_root v u l) ∙ root) ∙ bare l.steps in absurd (true≢false (ap is_some is)))
  ]

  -- what is changed through has no parts
  plain_parts : (facts : List Fact) → Good v facts t.state → (y : ℕ) → sees y ≡ false → (p : List ways.Step) → v.part_way y p ≡ None
  plain_parts facts good y plain p = no_way (v.part_way y p) refl
    where
      no_way : (o : Option Way) → v.part_way y p ≡ o → v.part_way y p ≡ None
      no_way None e = e
      no_way (Some w) e = absurd (true_false (sees y) (good.viewed.views.1 y p w e).sees plain)

  -- nor is it a formal with parts
  plain_bare : (facts : List Fact) → Good v facts t.state → (y : ℕ) → sees y ≡ false → is_bundle s y ≡ false
  plain_bare facts good y plain = by_kind (is_bundle s y) refl
    where
      by_kind : (b : Bool) → is_bundle s y ≡ b → is_bundle s y ≡ false
      by_kind false e = e
      by_kind true e = absurd (true_false (sees y) (good.holds.parts.looks y e) plain)

  -- one view got another way
  turned_by : (views : Views) (x y : ℕ) (way : Option Way) (loan up : Way) (cell : ℕ) (facts : List Fact) → Becomes v views x way loan up cell → may x y
      → ((w : Way) → way ≡ Some w → Comes_here views facts x y w) → Turned_here views facts
  turned_by views x y way loan up cell facts becomes mine comes = (λ q w e. by_object q w e (q == x) refl, λ q p. (becomes.part_ways q p, becomes.part_cells q p))
    where
      by_object : (q : ℕ) (w : Way) → views.way q ≡ Some w → (b : Bool) → (q == x) ≡ b → Same_here views q ⊎ ((y : ℕ) × may q y × Comes_here views facts q y w)
      by_object q w e true b =
          let same : x ≡ q = sym (eqb-true q x b) in
          subst (λ z. Same_here views z ⊎ ((y : ℕ) × may z y × Comes_here views facts z y w)) same
          (inr (y, mine, comes w (sym becomes.way_is ∙ ap views.way same ∙ e)))
      by_object q w e false b =
          let off : q ≡ x → ⊥ = λ same. false≢true (sym b ∙ eq-eqb q x same) in
          inl (record { way = becomes.ways q off; loan = becomes.loans q off; up = becomes.ups q off })

  -- what a name stands for that is rooted in a view goes on from the way of that
  comes_under : (y : ℕ) (k w : Way) → expand v k ≡ w → (l : Lifted v k) → l.object ≡ y → (q : Way) × (v.way y ≡ Some q) × Under q w
  comes_under y k w is l object =
      (l.way, subst (λ q. v.way q ≡ Some l.way) object l.has, subst (Under l.way) (sym (lifted_way v k l) ∙ is) (on_under l.way l.rest))

  -- it is taken from an object, or from what another view designates
  taken_from : (views : Views) (x y : ℕ) (z : machine.Word) (k loan : Way) (facts : List Fact)
      → Becomes v views x (way_from z (expand v k)) loan k (number_in z) → may x y → Named (home s depth) k → number_of k ≡ y → (y ≡ x → ⊥) → ((p : List ways.Step) → v.part_way y p ≡ None)
      → (sees x ≡ true → Has facts (Lent Observed x (ways.name_of loan)))
      → ((n : ℕ) → z ≡ machine.Cell n → GoesBy s v y k) → Turned_here views facts
  taken_from views x y z k loan facts becomes mine named root apart bare lent goes =
      turned_by views x y (way_from z (expand v k)) loan k (number_in z) facts becomes mine (λ w e. record {
        up = λ named. inl (ap number_of becomes.up_is ∙ root);
        root = subst (Has_root x y) (sym (way_of z (expand v k) w e)) (root_from x y k named root apart bare);
        loan = λ named sight. inl (subst (λ q. Has facts (Lent Observed x (ways.name_of q))) (sym becomes.loan_is) (lent sight));
        under = λ bare view. (
            let n = in_word z (expand v k) w e in
            let l = (goes n.0 n.1).0 bare view in
            comes_under y k w (sym (way_of z (expand v k) w e)) l.0 l.1);
      })

  taken_again : (views : Views) (x y : ℕ) (z : machine.Word) (k : Way) (l : Lifted v k) (facts : List Fact)
      → Becomes v views x (way_from z (expand v k)) (v.loan l.object) (next_of v k l) (number_in z) → may x y → number_of k ≡ y
      → (sees x ≡ true → sees y ≡ true) → Turned_here views facts
  taken_again views x y z k l facts becomes mine root sight =
      let object : l.object ≡ y = sym (lifted_root v k l) ∙ root in
      let has : v.way y ≡ Some l.way = subst (λ q. v.way q ≡ Some l.way) object l.has in
      let back : Named (home s depth) (views.up x) → Named (home s depth) (v.up y) =
      (λ named. subst (λ q. Named (home s depth) (v.up q)) object (on_named (home s depth) (v.up l.object) l.rest (subst (Named (home s depth)) becomes.up_is named))) in
      turned_by views x y (way_from z (expand v k)) (v.loan l.object) (next_of v k l) (number_in z) facts becomes mine (λ w e. record {
        up = λ named. inr (l.way, has, ap number_of becomes.up_is ∙ root_on (v.up l.object) l.rest ∙ ap (λ q. number_of (v.up q)) object, back);
        root = subst (Has_root x y) (sym (way_of z (expand v k) w e)) (lifted_from x y k root l);
        loan = λ named observes. inr (l.way, has, sight observes, becomes.loan_is ∙ ap v.loan object, back);
        under = λ bare view. comes_under y k w (sym (way_of z (expand v k) w e)) l object;
      })

  -- it is taken from what a part of a formal designates
  taken_within : (views : Views) (x y : ℕ) (z : machine.Word) (k : Way) (l : InPart v k) (facts : List Fact)
      → Becomes v views x (way_from z (expand v k)) (ways.Lost 0) (ways.Lost 0) (number_in z) → may x y → number_of k ≡ y → is_bundle s y ≡ true → Turned_here views facts
  taken_within views x y z k l facts becomes mine root bundle =
      turned_by views x y (way_from z (expand v k)) (ways.Lost 0) (ways.Lost 0) (number_in z) facts becomes mine (λ w e. record {
        up = λ named. absurd (subst (Named (home s depth)) becomes.up_is named);
        root = subst (Has_root x y) (sym (way_of z (expand v k) w e)) (part_from x y k root l);
        loan = λ named sight. absurd (subst (Named (home s depth)) becomes.up_is named);
        under = λ bare view. absurd (true_false (is_bundle s y) bundle bare);
      })

  -- it has none
  taken_none : (views : Views) (x : ℕ) (z : machine.Word) (w loan up : Way) (facts : List Fact)
      → Becomes v views x (way_from z w) loan up (number_in z) → ((k : ℕ) → z ≡ machine.Cell k → ⊥) → Turned_here views facts
  taken_none views x z w loan up facts becomes null = (λ q k e. by_object q k e (q == x) refl, λ q p. (becomes.part_ways q p, becomes.part_cells q p))
    where
      no_way : (z : machine.Word) (k : Way) → way_from z w ≡ Some k → ((k : ℕ) → z ≡ machine.Cell k → ⊥) → ⊥
      no_way (machine.Cell n) k e null = null n refl
      no_way (machine.Int n) k e null = false≢true (ap is_some e)
      no_way (machine.Enumerated n) k e null = false≢true (ap is_some e)
      no_way machine.Null k e null = false≢true (ap is_some e)

      by_object : (q : ℕ) (k : Way) → views.way q ≡ Some k → (b : Bool) → (q == x) ≡ b → Same_here views q ⊎ ((y : ℕ) × may q y × Comes_here views facts q y k)
      by_object q k e true b = absurd (no_way z k (sym becomes.way_is ∙ ap views.way (sym (eqb-true q x b)) ∙ e) null)
      by_object q k e false b =
          let off : q ≡ x → ⊥ = λ same. false≢true (sym b ∙ eq-eqb q x same) in
          inl (record { way = becomes.ways q off; loan = becomes.loans q off; up = becomes.ups q off })

  fact_added : (a : Act) (facts : List Fact) (f : Fact) → Has (adds a) f → Has (effect a facts) f
  fact_added a facts f has = Has-append_right (filter (λ g. not (removes a g)) facts) (adds a) f has

  -- What the source gives is stored in the variable of the view. It may lead further than the source does
  -- itself, where a function gave it.
  abbrev pub Gets : ℕ → ℕ → ℕ → PlaceName → List Fact → Type 0
  Gets x y d name facts =
      (u : Way) (r : List Go) (z : machine.Word) → Named (home s depth) u → ways.name_of u ≡ name → IsReached v (seen s m hands t.state.leaks) (on (All u) r) z
      → ((k : ℕ) → z ≡ machine.Cell k → IsCell s m d k)
      → ((k : ℕ) → z ≡ machine.Cell k → GoesBy s v y (on (All u) r)) → (views : Views) × Got views x z facts

  -- An object of an anonymous access type, which designates this type.
  pub record Sees (x d : ℕ) : Type 0 where
    pub k : ℕ
    pub e : Bool
    pub o : Bool
    pub view : shape_of s.table (object_at s x).of ≡ shape.Access k e o
    pub fits : Matches s.table d k
    pub anonymous : is_anonymous (view_of s x) ≡ true
    pub mine : home s depth x ≡ depth

  -- Its source is a name that designates what it does.
  pub record Observes (x y u d : ℕ) (path : TypedTree) : Type 0 where
    pub k : ℕ
    pub c : Bool
    pub n : Bool
    pub e : Bool
    pub o : Bool
    pub lead : LeadsTo s (object_at s y).of path u
    pub source : shape_of s.table u ≡ shape.Access d c n
    pub view : shape_of s.table (object_at s x).of ≡ shape.Access k e o
    pub fits : Matches s.table d k
    pub anonymous : is_anonymous (view_of s x) ≡ true
    pub mine : home s depth x ≡ depth
    pub own : is_given s x ≡ false

  sees_it : (x y u d : ℕ) (path : TypedTree) → Observes x y u d path → Sees x d
  sees_it x y u d path observes = record {
    k = observes.k;
    e = observes.e;
    o = observes.o;
    view = observes.view;
    fits = observes.fits;
    anonymous = observes.anonymous;
    mine = observes.mine;
  }

  -- what an object sees that is no formal
  observes_only : (x : ℕ) → is_observer s x ≡ true → sees x ≡ true
  observes_only x e = observer_sees s sees seeing x e

  -- a name through a formal goes by its way
  found : (w : Way) (r : List Go) (y : ℕ) (z : machine.Word) → number_of w ≡ y → is_bundle s y ≡ false
      → ((k : ℕ) → z ≡ machine.Cell k → GoesBy s v y (on (All w) r))
      → is_view_formal s (number_of (on (All w) r)) ≡ true → (k : ℕ) → z ≡ machine.Cell k → Lifted v (on (All w) r)
  found w r y z root bare goes formal k e =
      ((goes k e).0 bare (either_true (is_anonymous (view_of s y)) (is_view_formal s y) (ap (is_view_formal s) (sym (root_on (All w) r ∙ root)) ∙ formal))).0

  of_type : (x d : ℕ) → Sees x d → (z : machine.Word) → ((k : ℕ) → z ≡ machine.Cell k → IsCell s m d k) → IsOfType s sees settled m x z
  of_type x d observes z typed d' c' n' k is e =
      let there = typed k e in
      let same = same_designated observes.k d' observes.e observes.o c' n' (sym observes.view ∙ is) in
      (there.0, there.1, matches_on s.table d d' (cell m k).of (subst (Matches s.table d) same observes.fits) there.2)

  one_word : (x d : ℕ) → Sees x d → words s.table (object_at s x).of ≡ 1
  one_word x d observes = settled.word_law (object_at s x).of ∙ ap (shape_words (words s.table)) observes.view

  pub borrow_gets : (x y d : ℕ) (path : TypedTree) (facts : List Fact) → Sees x d → Good v facts t.state → Unused (home s depth) other.lent v facts x
      → sees x ≡ false → sees y ≡ false → y < x → may x y → Allows facts (act.Borrow x (name_of y path))
      → Gets x y d (name_of y path) (effect (act.Borrow x (name_of y path)) facts)
  borrow_gets x y d path facts observes good unused borrows plain older mine allowed w r z named called is typed goes =
      let views : Views = with_view v x (way_from z (expand v (on (All w) r))) w (on (All w) r) (number_in z) in
      let root : number_of w ≡ y = ap (λ (n : PlaceName). n.root) called in
      let got = borrower_declared s sees settled depth other v views m hands t.state.leaks facts good.viewed good.kept good.holds x z observes.mine observes.anonymous
      (one_word x d observes) (of_type x d observes z typed) w r
      (becomes_with v x (way_from z (expand v (on (All w) r))) w (on (All w) r) (number_in z)) unused borrows (found w r y z root (plain_bare facts good y plain) goes) named (ap sees root ∙ plain)
      (subst (λ n. n < x) (sym root) older) is (subst (λ n. Allows facts (act.Borrow x n)) (sym called) allowed) in
      let turned : Turned_here views (effect (act.Borrow x (ways.name_of w)) facts) =
      taken_from views x y z (on (All w) r) w (effect (act.Borrow x (ways.name_of w)) facts) (becomes_with v x (way_from z (expand v (on (All w) r))) w (on (All w) r) (number_in z)) mine
      (named_on (home s depth) (All w) r named) (root_on (All w) r ∙ root)
      (λ same. absurd (omega (arith, older, same))) (plain_parts facts good y plain)
      (λ sight. absurd (true_false (sees x) sight borrows)) goes in
      (views, subst (λ n. Got views x z (effect (act.Borrow x n) facts)) called (got.sound, got.words_kept, got.views_held, turned))

  observe_gets : (x y d : ℕ) (path : TypedTree) (facts : List Fact) → Sees x d → Good v facts t.state
      → is_observer s x ≡ true → sees y ≡ false → may x y → Allows facts (act.Observe x (name_of y path) false)
      → Gets x y d (name_of y path) (effect (act.Observe x (name_of y path) false) facts)
  observe_gets x y d path facts observes good observer plain mine allowed w r z named called is typed goes =
      let views : Views = with_view v x (way_from z (expand v (on (All w) r))) w (on (All w) r) (number_in z) in
      let root : number_of w ≡ y = ap (λ (n : PlaceName). n.root) called in
      let got = observer_stored s sees settled depth other v views m hands t.state.leaks facts good.viewed good.kept good.holds x z observes.mine observes.anonymous
      (one_word x d observes) (of_type x d observes z typed) w r
      (becomes_with v x (way_from z (expand v (on (All w) r))) w (on (All w) r) (number_in z)) (observes_only x observer) observer (found w r y z root (plain_bare facts good y plain) goes) named (ap sees root ∙ plain)
      is (subst (λ n. Allows facts (act.Observe x n false)) (sym called) allowed) in
      let turned : Turned_here views (effect (act.Observe x (ways.name_of w) false) facts) =
      taken_from views x y z (on (All w) r) w (effect (act.Observe x (ways.name_of w) false) facts) (becomes_with v x (way_from z (expand v (on (All w) r))) w (on (All w) r) (number_in z)) mine
      (named_on (home s depth) (All w) r named) (root_on (All w) r ∙ root)
      (λ same. absurd (true_false (sees x) (observes_only x observer) (ap sees (sym same) ∙ plain))) (plain_parts facts good y plain)
      (λ sight. fact_added (act.Observe x (ways.name_of w) false) facts (Lent Observed x (ways.name_of w)) (inl refl)) goes in
      (views, subst (λ n. Got views x z (effect (act.Observe x n false) facts)) called (got.sound, got.words_kept, got.views_held, turned))

  abbrev Shown : (facts : List Fact) → Good v facts t.state → ℕ → ℕ → PlaceName → List machine.Word → Type 0
  Shown facts good y d name ws =
      (u : Way) × Named (home s depth) u × (ways.name_of u ≡ name)
      × Shows (here t) sees seeing settled hands t.state.leaks m [] other facts v good.kept good.viewed good.holds alone (alive facts good) index_law own_law parts_named y d u ws

  -- it is declared with that
  pub got_declared : (x : ℕ) (z : machine.Word) (behind : List Fact) → (views : Views) × Got views x z behind → Leads_here behind (goes t (declared depth x (z ∷ []) m) 0)
  got_declared x z behind got =
      goes_to t sees seeing settled own_law other alone v parts_named may frames none (declared depth x (z ∷ []) m) 0 got.0 behind got.1.3 got.1.0 got.1.1 got.1.2

  then_got : (x y d : ℕ) (name : PlaceName) (facts behind : List Fact) (good : Good v facts t.state) → Gets x y d name behind → (e : Evaluated (List machine.Word))
      → Quiet now (Shown facts good y d name) e → Leads_here behind (steps.evaluated t e (λ ws m. goes t (declared depth x ws m) 0))
  then_got x y d name facts behind good gets (Done ws n) (same, (u, named, called, shows)) =
      subst (λ (z : Now). Leads_here behind (goes t (declared depth x ws z.memory) 0)) (sym same)
      (subst (λ z. Leads_here behind (goes t (declared depth x z m) 0)) (sym shows.is)
      (got_declared x shows.word behind (gets u [] shows.word named called shows.designated shows.typed shows.goes)))
  then_got x y d name facts behind good gets (Raises e n) is = (λ trap. trap, raises t sees seeing settled own_law other alone v parts_named may frames none facts good n.memory)
  then_got x y d name facts behind good gets (Traps e n) never = absurd never

  -- the act of the source is allowed after those of its indexes, which change nothing
  last_allowed : (ws : List (List machine.Word)) (x y u d : ℕ) (r : Pos) (path : TypedTree) (a : PlaceName → Act) → Observes x y u d path → Takes (waits_in path) ws []
      → (facts : List Fact) (good : Good v facts t.state) → AllowsAll facts (acts (acts_in s path ++ record { pos = r; act = a (name_of y path) } ∷ []))
      → Allows facts (a (name_of y path)) × AllowsAll facts (acts (acts_in s path))
      × (after (acts (acts_in s path ++ record { pos = r; act = a (name_of y path) } ∷ [])) facts ≡ effect (a (name_of y path)) facts)
  last_allowed ws x y u d r path a observes takes facts good allowed =
      let b : List Act = acts (acts_in s path) in
      let whole_acts : acts (acts_in s path ++ record { pos = r; act = a (name_of y path) } ∷ []) ≡ b ++ (a (name_of y path) ∷ []) =
      acts_append (acts_in s path) (record { pos = r; act = a (name_of y path) } ∷ []) in
      let each = allows_both facts b (a (name_of y path) ∷ []) (subst (AllowsAll facts) whole_acts allowed) in
      let inner = steps_taking (here t) sees seeing settled hands t.state.leaks m [] other facts v good.kept good.viewed good.holds alone (alive facts good)
      index_law own_law parts_named (object_at s y).of u path observes.lead ws [] takes each.0 in (
        subst (λ z. Allows z (a (name_of y path))) inner.1 each.1.0,
        each.0,
        ap (λ z. after z facts) whole_acts ∙ after_append b (a (name_of y path) ∷ []) facts ∙ ap (effect (a (name_of y path))) inner.1,
      )

  -- what the source has is shown
  shown_on : (ws : List (List machine.Word)) (x y u d : ℕ) (p : Pos) (path : TypedTree) → Observes x y u d path → Takes (waits_in path) ws []
      → (facts : List Fact) (good : Good v facts t.state) → AllowsAll facts (acts (acts_in s path))
      → ((w : Way) → ways.name_of w ≡ name_of y path → sees y ≡ false → Cleared facts w)
      → Quiet now (Shown facts good y d (name_of y path)) (evaluate (here t) AsView (Name p y path u) (at ws))
  shown_on ws x y u d p path observes takes facts good allowed clears =
      source_on (here t) sees seeing settled hands t.state.leaks m [] other facts v good.kept good.viewed good.holds alone (alive facts good)
      index_law own_law parts_named ws [] p y u d observes.c observes.n path observes.lead observes.source takes allowed clears

  -- an object gets its first value
  abbrev pub Declares : (ws : List (List machine.Word)) (x : ℕ) (e : TypedTree) → Outcome
  Declares ws x e = steps.evaluated t (first_value t (object_at s x).of e (at ws)) (λ ws m. goes t (declared depth x ws m) 0)

  -- the view gets what its source has, under the act of the source
  view_on : (ws : List (List machine.Word)) (x y u d : ℕ) (p : Pos) (path rest : TypedTree) (a : PlaceName → Act) → Observes x y u d path → Takes (waits_in path) ws []
      → (facts : List Fact) (good : Good v facts t.state) → AllowsAll facts (acts (source_acts s (Name p y path u) a))
      → ((w : Way) → ways.name_of w ≡ name_of y path → sees y ≡ false → Cleared facts w)
      → (Allows facts (a (name_of y path)) → Gets x y d (name_of y path) (effect (a (name_of y path)) facts))
      → Leads_here (after (acts (source_acts s (Name p y path u) a)) facts) (Declares ws x (More (Name p y path u) rest))
  view_on ws x y u d p path rest a observes takes facts good allowed clears gets =
      let last = last_allowed ws x y u d p path a observes takes facts good allowed in
      subst (λ z. Leads_here z (Declares ws x (More (Name p y path u) rest))) (sym last.2)
      (subst (λ c. Leads_here (effect (a (name_of y path)) facts)
      (steps.evaluated t (if c then viewed (here t) (Name p y path u) (at ws) else followed_by (value (here t) (Name p y path u) (at ws)) (checked (here t) (object_at s x).of))
      (λ ws m. goes t (declared depth x ws m) 0))) (sym observes.anonymous)
      (then_got x y d (name_of y path) facts (effect (a (name_of y path)) facts) good (gets last.0) (evaluate (here t) AsView (Name p y path u) (at ws))
      (shown_on ws x y u d p path observes takes facts good last.1 clears)))

  -- ---- what only sees, of what another such object sees

  pub again_gets : (x y d : ℕ) (path : TypedTree) (facts after_it : List Fact) → Sees x d → Good v facts t.state
      → sees x ≡ true → sees y ≡ true → (is_observer s x ≡ false → is_observer s y ≡ false) → may x y → Leaves sees facts after_it → Gets x y d (name_of y path) after_it
  again_gets x y d path facts after_it observes good looks from alike mine leaves w r z named called is typed goes = by_word z is typed goes
    where
      view_y : is_view s y ≡ true
      view_y = sees_view s sees seeing y from

      nothing : (z : machine.Word) → ((k : ℕ) → z ≡ machine.Cell k → ⊥) → IsReached v (seen s m hands t.state.leaks) (on (All w) r) z
          → ((k : ℕ) → z ≡ machine.Cell k → IsCell s m d k) → (views : Views) × Got views x z after_it
      nothing z null is typed =
          let views : Views = with_view v x (way_from z w) w w (number_in z) in
          let got = view_emptied s sees settled depth other v views m hands t.state.leaks facts good.viewed good.kept good.holds x z observes.mine observes.anonymous
          (one_word x d observes) (of_type x d observes z typed) after_it w w w (becomes_with v x (way_from z w) w w (number_in z)) null
          (lent.observer_unused (home s depth) sees other v views (seen s m hands t.state.leaks) facts good.viewed x looks) leaves.moved leaves.loans leaves.clear in
          (views, (got.sound, got.words_kept, got.views_held, taken_none views x z w w w after_it (becomes_with v x (way_from z w) w w (number_in z)) null))

      -- by the way of a part of a formal
      through_part : (k : ℕ) (l : InPart v (on (All w) r)) → is_bundle s y ≡ true → IsReached v (seen s m hands t.state.leaks) (on (All w) r) (machine.Cell k)
          → ((j : ℕ) → machine.Cell k ≡ machine.Cell j → IsCell s m d j) → (views : Views) × Got views x (machine.Cell k) after_it
      through_part k l bundle is typed =
          let z : machine.Word = machine.Cell k in
          let views : Views = with_view v x (way_from z (expand v (on (All w) r))) (ways.Lost 0) (ways.Lost 0) (number_in z) in
          let becomes = becomes_with v x (way_from z (expand v (on (All w) r))) (ways.Lost 0) (ways.Lost 0) (number_in z) in
          let got = part_seen s sees settled depth other v views m hands t.state.leaks facts good.viewed good.kept good.holds x z observes.mine observes.anonymous
          (one_word x d observes) (of_type x d observes z typed) (on (All w) r) l becomes looks is after_it leaves in (
            views,
            (
              got.sound,
              got.words_kept,
              got.views_held,
              taken_within views x y z (on (All w) r) l after_it becomes mine (root_on (All w) r ∙ ap (λ (n : PlaceName). n.root) called) bundle,
            ),
          )

      -- by that of the view
      through_way : (k : ℕ) → (l : Lifted v (on (All w) r)) × (l.object ≡ y) → IsReached v (seen s m hands t.state.leaks) (on (All w) r) (machine.Cell k)
          → ((j : ℕ) → machine.Cell k ≡ machine.Cell j → IsCell s m d j) → (views : Views) × Got views x (machine.Cell k) after_it
      through_way k l is typed =
          let z : machine.Word = machine.Cell k in
          let views : Views = with_view v x (way_from z (expand v (on (All w) r))) (v.loan l.0.object) (next_of v (on (All w) r) l.0) (number_in z) in
          let got = view_again s sees settled depth other v views m hands t.state.leaks facts good.viewed good.kept good.holds x z observes.mine observes.anonymous
          (one_word x d observes) (of_type x d observes z typed) (on (All w) r) l.0 (ap sees l.1 ∙ from) (λ borrows. ap (is_observer s) l.1 ∙ alike borrows)
          (becomes_with v x (way_from z (expand v (on (All w) r))) (v.loan l.0.object) (next_of v (on (All w) r) l.0) (number_in z)) looks
          (named_on (home s depth) (All w) r named) is after_it leaves in
          let turned : Turned_here views after_it =
          taken_again views x y z (on (All w) r) l.0 after_it
          (becomes_with v x (way_from z (expand v (on (All w) r))) (v.loan l.0.object) (next_of v (on (All w) r) l.0) (number_in z)) mine
          (root_on (All w) r ∙ ap (λ (n : PlaceName). n.root) called) (λ observes. from) in
          (views, (got.sound, got.words_kept, got.views_held, turned))

      by_word : (z : machine.Word) → IsReached v (seen s m hands t.state.leaks) (on (All w) r) z → ((k : ℕ) → z ≡ machine.Cell k → IsCell s m d k)
          → ((k : ℕ) → z ≡ machine.Cell k → GoesBy s v y (on (All w) r)) → (views : Views) × Got views x z after_it
      by_word (machine.Cell k) is typed goes = elim (bool_cases (is_bundle s y)) [
        | inl bundle ↦ through_part k ((goes k refl).1 bundle) bundle is typed
        | inr bare ↦ through_way k ((goes k refl).0 bare view_y) is typed
      ]
      by_word (machine.Int k) is typed goes = nothing (machine.Int k) (λ q e. int_cell e) is typed
      by_word (machine.Enumerated k) is typed goes = nothing (machine.Enumerated k) (λ q e. position_cell e) is typed
      by_word machine.Null is typed goes = nothing machine.Null (λ q e. null_cell e) is typed

  -- an observer does
  pub through_gets : (b : Bool) (x y d : ℕ) (path : TypedTree) (facts : List Fact) → Sees x d → Good v facts t.state
      → is_observer s x ≡ true → sees y ≡ true → may x y → Allows facts (act.Observe x (name_of y path) b)
      → Gets x y d (name_of y path) (effect (act.Observe x (name_of y path) b) facts)
  through_gets b x y d path facts observes good observer from mine allowed =
      again_gets x y d path facts (effect (act.Observe x (name_of y path) b) facts) observes good (observes_only x observer) from
      (λ borrows. absurd (true_false (is_observer s x) observer borrows)) mine
      (observe_leaves sees facts good.viewed.clear x (name_of y path) b allowed)

  -- A borrower only sees if what it is taken from does.
  pub lent_gets : (x y d : ℕ) (path : TypedTree) (facts : List Fact) → Sees x d → Good v facts t.state → Unused (home s depth) other.lent v facts x
      → is_observer s y ≡ false → sees x ≡ sees y → y < x → may x y → Allows facts (act.Borrow x (name_of y path))
      → Gets x y d (name_of y path) (effect (act.Borrow x (name_of y path)) facts)
  lent_gets x y d path facts observes good unused source alike older mine allowed = by_kind (sees y) refl
    where
      by_kind : (b : Bool) → sees y ≡ b → Gets x y d (name_of y path) (effect (act.Borrow x (name_of y path)) facts)
      by_kind false e = borrow_gets x y d path facts observes good unused (alike ∙ e) e older mine allowed
      by_kind true e =
          again_gets x y d path facts (effect (act.Borrow x (name_of y path)) facts) observes good (alike ∙ e) e (λ borrows. source) mine
          (borrow_leaves sees facts good.viewed.clear x (name_of y path) allowed)

  -- ---- declarations of borrowers and observers

  -- A borrower is declared. Its source is an older object, or is rooted in one.
  pub borrower_on : (ws : List (List machine.Word)) (x y u d : ℕ) (p : Pos) (path rest : TypedTree) → Observes x y u d path → is_borrower s x ≡ true
      → is_observer s y ≡ false → sees x ≡ sees y → y < x → may x y → Takes (waits_in path) ws [] → (facts : List Fact) (good : Good v facts t.state) → Unused (home s depth) other.lent v facts x
      → AllowsAll facts (acts (declared_acts s x (More (Name p y path u) rest)))
      → Leads_here (after (acts (declared_acts s x (More (Name p y path u) rest))) facts) (Declares ws x (More (Name p y path u) rest))
  borrower_on ws x y u d p path rest observes is source alike older from takes facts good unused allowed =
      let e : TypedTree = Name p y path u in
      let same : declared_acts s x (More e rest) ≡ source_acts s e (act.Borrow x) =
      ap (λ b. if b then source_acts s e (act.Borrow x) else (if is_observer s x then source_acts s e (observe s x) else acts_in s (More e rest))) is in
      let goes_by : AllowsAll facts (acts (source_acts s e (act.Borrow x))) = subst (λ z. AllowsAll facts (acts z)) same allowed in
      subst (λ z. Leads_here (after (acts z) facts) (Declares ws x (More e rest))) (sym same)
      (view_on ws x y u d p path rest (act.Borrow x) observes takes facts good goes_by
      (λ w called plain. borrow_clears facts x w (subst (λ n. Allows facts (act.Borrow x n)) (sym called) (last_allowed ws x y u d p path (act.Borrow x) observes takes facts good goes_by).0))
      (λ mine. lent_gets x y d path facts (sees_it x y u d path observes) good unused source alike older from mine))

  -- an observer of what isn't an observer: of an owner, a borrower or a formal
  pub seen_gets : (x y d : ℕ) (path : TypedTree) (facts : List Fact) → Sees x d → is_given s x ≡ false → Good v facts t.state
      → is_observer s x ≡ true → is_observer s y ≡ false → may x y → Allows facts (act.Observe x (name_of y path) false)
      → Gets x y d (name_of y path) (effect (act.Observe x (name_of y path) false) facts)
  seen_gets x y d path facts observes own good sight plain mine allowed = by_kind (sees y) refl
    where
      by_kind : (b : Bool) → sees y ≡ b → Gets x y d (name_of y path) (effect (act.Observe x (name_of y path) false) facts)
      by_kind false e = observe_gets x y d path facts observes good sight e mine allowed
      by_kind true e = through_gets false x y d path facts observes good sight e mine allowed

  -- An observer is declared, of what an owner has, or what a borrower leads to.
  pub observer_on : (ws : List (List machine.Word)) (x y u d : ℕ) (p : Pos) (path rest : TypedTree) → Observes x y u d path → is_borrower s x ≡ false → is_observer s x ≡ true
      → is_observer s y ≡ false → may x y → Takes (waits_in path) ws [] → (facts : List Fact) (good : Good v facts t.state)
      → AllowsAll facts (acts (declared_acts s x (More (Name p y path u) rest)))
      → Leads_here (after (acts (declared_acts s x (More (Name p y path u) rest))) facts) (Declares ws x (More (Name p y path u) rest))
  observer_on ws x y u d p path rest observes is_not sight plain from takes facts good allowed =
      let e : TypedTree = Name p y path u in
      let a : PlaceName → Act = (λ n. act.Observe x n false) in
      let same : declared_acts s x (More e rest) ≡ source_acts s e a =
      ap (λ b. if b then source_acts s e (act.Borrow x) else (if is_observer s x then source_acts s e (observe s x) else acts_in s (More e rest))) is_not
      ∙ ap (λ b. if b then source_acts s e (observe s x) else acts_in s (More e rest)) sight
      ∙ ap (λ b. index_acts s e ++ (record { pos = p; act = act.Observe x (name_of y path) b } ∷ [])) plain in
      let goes_by : AllowsAll facts (acts (source_acts s e a)) = subst (λ z. AllowsAll facts (acts z)) same allowed in
      subst (λ z. Leads_here (after (acts z) facts) (Declares ws x (More e rest))) (sym same)
      (view_on ws x y u d p path rest a observes takes facts good goes_by
      (λ w called plain. observe_clears facts x false w (subst (λ n. Allows facts (act.Observe x n false)) (sym called) (last_allowed ws x y u d p path a observes takes facts good goes_by).0))
      (λ mine. seen_gets x y d path facts (sees_it x y u d path observes) observes.own good sight plain from mine))

  -- An observer is declared that sees what another one does.
  pub observer_again_on : (ws : List (List machine.Word)) (x y u d : ℕ) (p : Pos) (path rest : TypedTree) → Observes x y u d path → is_borrower s x ≡ false → is_observer s x ≡ true
      → is_observer s y ≡ true → may x y → Takes (waits_in path) ws [] → (facts : List Fact) (good : Good v facts t.state)
      → AllowsAll facts (acts (declared_acts s x (More (Name p y path u) rest)))
      → Leads_here (after (acts (declared_acts s x (More (Name p y path u) rest))) facts) (Declares ws x (More (Name p y path u) rest))
  observer_again_on ws x y u d p path rest observes is_not sight from by takes facts good allowed =
      let e : TypedTree = Name p y path u in
      let a : PlaceName → Act = (λ n. act.Observe x n true) in
      let same : declared_acts s x (More e rest) ≡ source_acts s e a =
      ap (λ b. if b then source_acts s e (act.Borrow x) else (if is_observer s x then source_acts s e (observe s x) else acts_in s (More e rest))) is_not
      ∙ ap (λ b. if b then source_acts s e (observe s x) else acts_in s (More e rest)) sight
      ∙ ap (λ b. index_acts s e ++ (record { pos = p; act = act.Observe x (name_of y path) b } ∷ [])) from in
      let goes_by : AllowsAll facts (acts (source_acts s e a)) = subst (λ z. AllowsAll facts (acts z)) same allowed in
      subst (λ z. Leads_here (after (acts z) facts) (Declares ws x (More e rest))) (sym same)
      (view_on ws x y u d p path rest a observes takes facts good goes_by
      (λ w called plain. absurd (true_false (sees y) (observes_only y from) plain))
      (λ mine. through_gets true x y d path facts (sees_it x y u d path observes) good sight (observes_only y from) by mine))

  -- ---- assignments to borrowers and observers

  replaced : (all : List Slot) (z : machine.Word) → length all ≡ 1 → take 0 all ++ fresh (z ∷ []) ++ drop (0 + length (fresh (z ∷ []))) all ≡ fresh (z ∷ [])
  replaced [] z one = absurd (omega (arith, one))
  replaced (a ∷ []) z one = refl
  replaced (a ∷ b ∷ all) z one = absurd (omega (arith, one))

  pub no_parts : (k : ℕ) (e o : Bool) → is_anonymous (view_of_shape (shape.Access k e o)) ≡ true → (f : ℕ → List (List Sel)) → parts_of f (shape.Access k e o) ≡ []
  no_parts k true true any f = absurd (false≢true any)
  no_parts k false true any f = absurd (false≢true any)
  no_parts k e false any f = refl

  -- the variable of a view has no leak checks, and its word is the whole of it
  unchecked : (x d : ℕ) → Sees x d → (pos : Pos) → leaks_at s pos m (run.variable_place (here t) x) ≡ []
  unchecked x d observes pos =
      let empty : parts s.table (object_at s x).of ≡ [] =
      settled.part_law (object_at s x).of ∙ ap (parts_of (parts s.table)) observes.view
      ∙ no_parts observes.k observes.e observes.o (sym (ap (λ z. is_anonymous (view_of_shape z)) observes.view) ∙ observes.anonymous) (parts s.table) in
      ap (λ z. checked_at pos 0 (slots_at s m (run.variable_place (here t) x).base) (flat_map (machine.offsets s.table (object_at s x).of) z)) empty

  pub stored_as : (x d : ℕ) (facts : List Fact) → Sees x d → Good v facts t.state → (z : machine.Word)
      → stored s (run.variable_place (here t) x) (z ∷ []) m ≡ declared depth x (z ∷ []) m
  stored_as x d facts observes good z =
      ap (λ q. memory.put (memory.OfVariable (home s depth x) x) q m)
      (replaced (variable_slots s (home s depth x) x m.variables) z (good.kept.variables (home s depth x) x ∙ one_word x d observes))
      ∙ ap (λ f. declared f x (z ∷ []) m) observes.mine

  pub stored_is : (x y u d : ℕ) (path : TypedTree) (facts : List Fact) → Observes x y u d path → Good v facts t.state → (z : machine.Word)
      → stored s (run.variable_place (here t) x) (z ∷ []) m ≡ declared depth x (z ∷ []) m
  stored_is x y u d path facts observes good z = stored_as x d facts (sees_it x y u d path observes) good z

  abbrev pub Puts : Pos → Pos → ℕ → ℕ → Evaluated (List machine.Word) → Outcome
  Puts pos q x u e =
      steps.evaluated t (followed_by e (λ ws now. followed_by (place_of (here t) (Name q x NoMore u) now) (λ k now. Done (record { words = ws; place = k }) now)))
      (λ (st : Stored) m. leaking_goes (checks_at s pos m st.place) (goes t (stored s st.place st.words m) 0))

  pub put_at : (pos q : Pos) (x u : ℕ) (ws : List machine.Word) (n : Now)
      → Puts pos q x u (Done ws n) ≡ leaking_goes (checks_at s pos n.memory (run.variable_place (here t) x)) (goes t (stored s (run.variable_place (here t) x) ws n.memory) 0)
  unfolding steps_of
  put_at pos q x u ws n = refl

  -- the view is assigned that
  pub got_put : (pos q : Pos) (x w d : ℕ) (facts behind : List Fact) → Sees x d → Good v facts t.state → (z : machine.Word) → (views : Views) × Got views x z behind
      → Leads_here behind (Puts pos q x w (Done (z ∷ []) now))
  got_put pos q x w d facts behind observes good z got =
      let k : Place = run.variable_place (here t) x in
      subst (Leads_here behind) (sym (put_at pos q x w (z ∷ []) now))
      (subst (λ a. Leads_here behind (leaking_goes (checks_at s pos m k) (goes t a 0))) (sym (stored_as x d facts observes good z))
      (goes_on t sees seeing settled own_law other alone v parts_named may frames none (declared depth x (z ∷ []) m) (checks_at s pos m k) []
      (all_checks s pos m k ∙ unchecked x d observes pos) got.0 behind got.1.3
      (subst (λ a. Viewed (home s depth) sees other got.0 (seen s (declared depth x (z ∷ []) m) hands a) behind) (sym (append-nil t.state.leaks)) got.1.0)
      got.1.1 got.1.2))

  then_put : (pos q : Pos) (x y u w d : ℕ) (path : TypedTree) (name : PlaceName) (facts behind : List Fact) (good : Good v facts t.state) → Observes x y u d path
      → Gets x y d name behind → (e : Evaluated (List machine.Word)) → Quiet now (Shown facts good y d name) e → Leads_here behind (Puts pos q x w e)
  then_put pos q x y u w d path name facts behind good observes gets (Done ws n) (same, (r, named, called, shows)) =
      subst (λ (z : Now). Leads_here behind (Puts pos q x w (Done ws z))) (sym same)
      (subst (λ z. Leads_here behind (Puts pos q x w (Done z now))) (sym shows.is)
      (got_put pos q x w d facts behind (sees_it x y u d path observes) good shows.word
      (gets r [] shows.word named called shows.designated shows.typed shows.goes)))
  then_put pos q x y u w d path name facts behind good observes gets (Raises e n) is = (λ trap. trap, raises t sees seeing settled own_law other alone v parts_named may frames none facts good n.memory)
  then_put pos q x y u w d path name facts behind good observes gets (Traps e n) never = absurd never

  -- the view gets what its source has
  put_on : (ws : List (List machine.Word)) (pos q p r : Pos) (x y u d : ℕ) (path : TypedTree) (a : PlaceName → Act) → Observes x y u d path → Takes (waits_in path) ws []
      → (facts : List Fact) (good : Good v facts t.state)
      → AllowsAll facts (acts (acts_in s path ++ record { pos = r; act = a (name_of y path) } ∷ []))
      → ((w : Way) → ways.name_of w ≡ name_of y path → sees y ≡ false → Allows facts (a (name_of y path)) → Cleared facts w)
      → (Allows facts (a (name_of y path)) → Gets x y d (name_of y path) (effect (a (name_of y path)) facts))
      → Leads_here (after (acts (acts_in s path ++ record { pos = r; act = a (name_of y path) } ∷ [])) facts)
      (Puts pos q x (object_at s x).of (taken_by t (object_at s x).of (Name p y path u) (at ws)))
  put_on ws pos q p r x y u d path a observes takes facts good allowed clears gets =
      let last = last_allowed ws x y u d r path a observes takes facts good allowed in
      let of : ℕ = (object_at s x).of in
      subst (λ z. Leads_here z (Puts pos q x of (taken_by t of (Name p y path u) (at ws)))) (sym last.2)
      (subst (λ c. Leads_here (effect (a (name_of y path)) facts)
      (Puts pos q x of (if c then viewed (here t) (Name p y path u) (at ws) else followed_by (value (here t) (Name p y path u) (at ws)) (checked (here t) of)))) (sym observes.anonymous)
      (then_put pos q x y u of d path (name_of y path) facts (effect (a (name_of y path)) facts) good observes (gets last.0) (evaluate (here t) AsView (Name p y path u) (at ws))
      (shown_on ws x y u d p path observes takes facts good last.1 (λ w called plain. clears w called plain last.0))))

  -- A borrower goes on from where it is.
  pub reborrow_gets : (x d : ℕ) (path : TypedTree) (facts : List Fact) → Sees x d → Good v facts t.state
      → sees x ≡ false → is_given s x ≡ false → may x x → Allows facts (act.Reborrow x (name_of x path))
      → Gets x x d (name_of x path) (effect (act.Reborrow x (name_of x path)) facts)
  reborrow_gets x d path facts observes good borrows own mine allowed w r z named called is typed goes = by_word z is typed goes
    where
      nothing : (z : machine.Word) → ((k : ℕ) → z ≡ machine.Cell k → ⊥) → ((k : ℕ) → z ≡ machine.Cell k → IsCell s m d k)
          → (views : Views) × Got views x z (effect (act.Reborrow x (name_of x path)) facts)
      nothing z null typed =
          let views : Views = with_view v x (way_from z w) w w (number_in z) in
          let a : Act = act.Reborrow x (name_of x path) in
          let got = view_emptied s sees settled depth other v views m hands t.state.leaks facts good.viewed good.kept good.holds x z observes.mine observes.anonymous
          (one_word x d observes) (of_type x d observes z typed) (effect a facts) w w w (becomes_with v x (way_from z w) w w (number_in z)) null
          (lent.reborrow_unused (home s depth) sees other v views (seen s m hands t.state.leaks) facts good.viewed x (name_of x path) allowed)
          (λ n has. kept_fact a facts (Moved n) has refl) (loan_kept a facts (λ l h k. refl))
          (clear_same sees facts good.viewed.clear a refl) in
          (views, (got.sound, got.words_kept, got.views_held, taken_none views x z w w w (effect a facts) (becomes_with v x (way_from z w) w w (number_in z)) null))

      by_word : (z : machine.Word) → IsReached v (seen s m hands t.state.leaks) (on (All w) r) z → ((k : ℕ) → z ≡ machine.Cell k → IsCell s m d k)
          → ((k : ℕ) → z ≡ machine.Cell k → GoesBy s v x (on (All w) r))
          → (views : Views) × Got views x z (effect (act.Reborrow x (name_of x path)) facts)
      by_word (machine.Cell k) is typed goes =
          let z : machine.Word = machine.Cell k in
          let l = (goes k refl).0 (anonymous_bundle s x observes.anonymous) (ap (λ b. b || is_view_formal s x) observes.anonymous) in
          let views : Views = with_view v x (way_from z (expand v (on (All w) r))) (v.loan l.0.object) (next_of v (on (All w) r) l.0) (number_in z) in
          let got = borrower_stored s sees settled depth other v views m hands t.state.leaks facts good.viewed good.kept good.holds x z observes.mine observes.anonymous
          (one_word x d observes) (of_type x d observes z typed) (name_of x path) (on (All w) r) l.0 l.1
          (becomes_with v x (way_from z (expand v (on (All w) r))) (v.loan l.0.object) (next_of v (on (All w) r) l.0) (number_in z)) borrows own
          (named_on (home s depth) (All w) r named) is allowed in
          let turned : Turned_here views (effect (act.Reborrow x (name_of x path)) facts) =
          taken_again views x x z (on (All w) r) l.0 (effect (act.Reborrow x (name_of x path)) facts)
          (becomes_with v x (way_from z (expand v (on (All w) r))) (v.loan l.0.object) (next_of v (on (All w) r) l.0) (number_in z)) mine
          (root_on (All w) r ∙ ap (λ (n : PlaceName). n.root) called) (λ observes. observes) in
          (views, (got.sound, got.words_kept, got.views_held, turned))
      by_word (machine.Int k) is typed goes = nothing (machine.Int k) (λ q e. int_cell e) typed
      by_word (machine.Enumerated k) is typed goes = nothing (machine.Enumerated k) (λ q e. position_cell e) typed
      by_word machine.Null is typed goes = nothing machine.Null (λ q e. null_cell e) typed

  pub further_gets : (x d : ℕ) (path : TypedTree) (facts : List Fact) → Sees x d → Good v facts t.state → is_given s x ≡ false → may x x
      → Allows facts (act.Reborrow x (name_of x path)) → Gets x x d (name_of x path) (effect (act.Reborrow x (name_of x path)) facts)
  further_gets x d path facts observes good own mine allowed = by_kind (sees x) refl
    where
      by_kind : (b : Bool) → sees x ≡ b → Gets x x d (name_of x path) (effect (act.Reborrow x (name_of x path)) facts)
      by_kind false e = reborrow_gets x d path facts observes good e own mine allowed
      by_kind true e =
          again_gets x x d path facts (effect (act.Reborrow x (name_of x path)) facts) observes good e e (λ borrows. borrows) mine
          (reborrow_leaves sees facts good.viewed.clear x (name_of x path))

  pub assign_borrower_on : (ws : List (List machine.Word)) (pos q p : Pos) (x u d : ℕ) (path : TypedTree) → Observes x x u d path → is_borrower s x ≡ true
      → may x x → Takes (waits_in path) ws [] → (facts : List Fact) (good : Good v facts t.state)
      → AllowsAll facts (acts (assigned_to s pos (Some x) (Name q x NoMore (object_at s x).of) (Name p x path u)))
      → Leads_here (after (acts (assigned_to s pos (Some x) (Name q x NoMore (object_at s x).of) (Name p x path u))) facts)
      (Puts (target_pos t (Name q x NoMore (object_at s x).of)) q x (object_at s x).of (taken_by t (object_at s x).of (Name p x path u) (at ws)))
  assign_borrower_on ws pos q p x u d path observes is from takes facts good allowed =
      let e : TypedTree = Name p x path u in
      let target : TypedTree = Name q x NoMore (object_at s x).of in
      let same : assigned_to s pos (Some x) target e ≡ acts_in s path ++ record { pos = q; act = act.Reborrow x (name_of x path) } ∷ [] =
      ap (λ b. if b then index_acts s e ++ reborrow (acts_target_pos pos (written target)) x (source e)
      else (if is_observer s x then source_acts s e (observe s x) else stored_acts s target e)) is in
      subst (λ z. Leads_here (after (acts z) facts) (Puts (target_pos t target) q x (object_at s x).of (taken_by t (object_at s x).of e (at ws)))) (sym same)
      (put_on ws (target_pos t target) q p q x x u d path (act.Reborrow x) observes takes facts good (subst (λ z. AllowsAll facts (acts z)) same allowed)
      (λ w called plain mine. reborrow_clears facts x w (ap (λ (n : PlaceName). n.root) called) (subst (λ n. Allows facts (act.Reborrow x n)) (sym called) mine))
      (λ mine. further_gets x d path facts (sees_it x x u d path observes) good observes.own from mine))

  -- An observer gets another value, of what an owner has, or what a borrower or an observer leads to.
  pub assign_observer_on : (ws : List (List machine.Word)) (pos q p : Pos) (x y u d : ℕ) (path : TypedTree) → Observes x y u d path → is_borrower s x ≡ false → is_observer s x ≡ true
      → may x y → Takes (waits_in path) ws [] → (facts : List Fact) (good : Good v facts t.state)
      → AllowsAll facts (acts (assigned_to s pos (Some x) (Name q x NoMore (object_at s x).of) (Name p y path u)))
      → Leads_here (after (acts (assigned_to s pos (Some x) (Name q x NoMore (object_at s x).of) (Name p y path u))) facts)
      (Puts (target_pos t (Name q x NoMore (object_at s x).of)) q x (object_at s x).of (taken_by t (object_at s x).of (Name p y path u) (at ws)))
  assign_observer_on ws pos q p x y u d path observes is_not sight from takes facts good allowed =
      let e : TypedTree = Name p y path u in
      let target : TypedTree = Name q x NoMore (object_at s x).of in
      let same : assigned_to s pos (Some x) target e ≡ acts_in s path ++ record { pos = p; act = act.Observe x (name_of y path) (is_observer s y) } ∷ [] =
      ap (λ b. if b then index_acts s e ++ reborrow (acts_target_pos pos (written target)) x (source e)
      else (if is_observer s x then source_acts s e (observe s x) else stored_acts s target e)) is_not
      ∙ ap (λ b. if b then source_acts s e (observe s x) else stored_acts s target e) sight in
      subst (λ z. Leads_here (after (acts z) facts) (Puts (target_pos t target) q x (object_at s x).of (taken_by t (object_at s x).of e (at ws)))) (sym same)
      (by_kind (is_observer s y) refl (subst (λ z. AllowsAll facts (acts z)) same allowed))
    where
      by_kind : (b : Bool) → is_observer s y ≡ b
          → AllowsAll facts (acts (acts_in s path ++ record { pos = p; act = act.Observe x (name_of y path) b } ∷ []))
          → Leads_here (after (acts (acts_in s path ++ record { pos = p; act = act.Observe x (name_of y path) b } ∷ [])) facts)
          (Puts (target_pos t (Name q x NoMore (object_at s x).of)) q x (object_at s x).of (taken_by t (object_at s x).of (Name p y path u) (at ws)))
      by_kind b kind goes_by =
          put_on ws (target_pos t (Name q x NoMore (object_at s x).of)) q p p x y u d path (λ n. act.Observe x n b) observes takes facts good goes_by
          (λ w called plain mine. observe_clears facts x b w (subst (λ n. Allows facts (act.Observe x n b)) (sym called) mine))
          (λ mine. gets b kind mine)
        where
          gets : (b : Bool) → is_observer s y ≡ b → Allows facts (act.Observe x (name_of y path) b)
              → Gets x y d (name_of y path) (effect (act.Observe x (name_of y path) b) facts)
          gets true kind mine = through_gets true x y d path facts (sees_it x y u d path observes) good sight (observes_only y kind) from mine
          gets false kind mine = seen_gets x y d path facts (sees_it x y u d path observes) observes.own good sight kind from mine
