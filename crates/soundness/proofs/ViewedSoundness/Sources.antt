-- The source of a borrow, of an observation and of a reborrow: a name that is looked at where it
-- stands, whose word is null or the number of the cell that it designates.
use Rattle.std.proofs.Common.{◌≡◌, refl, sym, ap, ◌∙◌, subst, inl, inr, ℕ, Bool, true, false, not, ◌&&◌, ◌||◌, List, [], ◌∷◌, map, get_or}
use Rattle.std.proofs.lemmas.Bool.{false≢true}
use Rattle.machine.specs.spark_base.declared.position.Pos.{Pos}
use Rattle.machine.specs.place_names.declared.fact.Fact.{Fact}
use Rattle.machine.specs.place_names.Names.{Name as PlaceName}
use Rattle.machine.specs.type_definitions.declared.table.Shape.TheVariants as shape
use Rattle.machine.specs.type_definitions.Types.{shape_of, view_of as view_of_shape}
use Rattle.machine.specs.typed_tree.Trees.{TypedTree, Name}
use Rattle.machine.specs.flow_paths.Objects.{Typing, object_at, is_anonymous, view_of}
use Rattle.machine.specs.flow_paths.Names.{has_call, waiting, name_of}
use Rattle.machine.specs.flow_paths.Acts.{acts_in}
use Rattle.machine.specs.Words as machine
use Rattle.machine.specs.Memory.{Slot, Memory, Place, no_slot, slots_at, variable_slots, words_of}
use Rattle.machine.specs.Evaluate.{Here, Now, AsView, Evaluated, Done, Raises, Traps, followed_by, evaluate, steps_of, walked, variable_place, held_or_taken}
use Rattle.machine.specs.Evaluate as run
use Rattle.machine.specs.States.{Waiting, Leak}
use Rattle.soundness.specs.OwnedWays.Ways.{Step, OfVariable, Loc, OfRoot, OfCell, Way, Object, All, View, Reaches, Under, Named, AllowsAll, number_of}
use Rattle.soundness.specs.OwnedWays.Ways as ways
use Rattle.soundness.proofs.OwnedWays.Locations.{under_itself}
use Rattle.soundness.specs.PartOffsets.Parts.{IsSettled}
use Rattle.soundness.specs.Seen.{IsNear, content, trunk, seen, home, is_view_formal}
use Rattle.soundness.specs.Typed.{OwnsByShape, IsCell, Kept}
use Rattle.soundness.specs.TypedLaws.Needed.{Leads, IndexLaw}
use Rattle.soundness.proofs.Walks.{way_along, Walked}
use Rattle.soundness.proofs.Scalars.{acts, number_along, named_along}
use Rattle.soundness.proofs.Stays.{Quiet, quiet_then}
use Rattle.soundness.proofs.Taking.{Takes, no_takes}
use Rattle.soundness.specs.OwnedLoans.Views.{Around, Down, Views, expand, ExcusedBy, Viewed, Lifted, InPart}
use Rattle.soundness.proofs.OwnedLoans.Ways.{HasNoPart, next_of, further, further_in, lifted_root, lifted_way, on_under}
use Rattle.soundness.proofs.OwnedLoans.Meeting.{next}
use Rattle.soundness.proofs.OwnedLoans.Others.{clean_away, seen_away_below}
use Rattle.soundness.proofs.OwnedLoans.Allowed.{Cleared, cleared_open}
use Rattle.soundness.proofs.OwnedLoans.Moves.{IsPlace}
use Rattle.soundness.specs.ViewedSoundness.Holds.{PartsAreNamed, is_view, is_bundle, IsOwners, Holds, GoesBy, Seeing}
use Rattle.soundness.proofs.ViewedSoundness.Walks.{one_slot, cell_spot}
use Rattle.soundness.proofs.ViewedSoundness.Spared.{gone_off}
use Rattle.soundness.proofs.ViewedSoundness.Names.{Starts, starts_named, is_place, lifted_place, lifted_deep, in_part_place, in_part_deep, part_owners, stands_owners, IsRaised, name_lifted}
use Rattle.soundness.proofs.ViewedSoundness.ViewKinds.{either_true, neither, plain_sees, access_bundle, bundle_access}
use Rattle.soundness.proofs.ViewedSoundness.Given.{part_whole}
use Rattle.soundness.proofs.ViewedSoundness.Names as names
use Rattle.soundness.proofs.ViewedSoundness.Stays.{Goes, steps_taking}
use Rattle.soundness.proofs.ViewedSoundness.Viewing.{IsDesignated, owner_designates, view_designates}
use Rattle.soundness.proofs.Parted.{by_either}

-- the type of a view
anonymous_access : (c : Bool) → (not false && not c) || (not false && c) ≡ true
anonymous_access true = refl
anonymous_access false = refl

not_both : (b : Bool) → b ≡ true → b ≡ false → ⊥
not_both b e f = cc

named_is : (d e : ℕ) (c b q : Bool) → shape.Access d c true ≡ shape.Access e b q → q ≡ true
named_is d e c b q z = cc

module _ (h : Here) (sees : ℕ → Bool) (seeing : Seeing h.typing sees) (settled : IsSettled h.typing.table) (hands : List Waiting) (leaks : List Leak) (m : Memory) (waits : List (List machine.Word))
    (other : Around (home h.typing h.frame)) (facts : List Fact) (v : Views)
    (kept : Kept h.typing m hands)
    (viewed : Viewed (home h.typing h.frame) sees other v (seen h.typing m hands leaks) facts)
    (holds : Holds h.typing sees h.frame v m)
    (alone : (w : Way) → IsNear h.frame w → other.gone w → ⊥)
    (live : (w : Way) (l : Loc) → IsOwners h.typing w → Reaches (seen h.typing m hands leaks) w l → (content h.typing m hands (trunk l)).owns ≡ true)
    (index_law : IndexLaw)
    (own_law : OwnsByShape h.typing.table)
    (parts_named : PartsAreNamed h.typing.table) where
  abbrev s : Typing
  s = h.typing

  abbrev view_here : View
  view_here = seen h.typing m hands leaks

  abbrev at : List (List machine.Word) → Now
  at ws = record { memory = m; waits = ws }

  abbrev variable : ℕ → Way
  variable x = Object (OfVariable (home h.typing h.frame x) x)

  -- What the source has: null, or the number of the cell that its name designates.
  pub record Shows (y d : ℕ) (u : Way) (ws : List machine.Word) : Type 0 where
    pub word : machine.Word
    pub is : ws ≡ word ∷ []
    pub designated : IsDesignated v view_here u word
    pub typed : (k : ℕ) → word ≡ machine.Cell k → IsCell s m d k
    pub goes : (k : ℕ) → word ≡ machine.Cell k → GoesBy s v y (All u)

  -- Nothing of a name was moved, unless it is looked at through an observer.
  abbrev pub Clears : ℕ → Way → Type 0
  Clears x u = sees x ≡ false → Cleared facts u

  -- what a name stands for isn't gone for others
  pub not_gone : (x : ℕ) (u : Way) → Named (home s h.frame) u → number_of u ≡ x → (sees x ≡ true → Lifted v u) → other.gone (expand v u) → ⊥
  not_gone x u named root lifted gone = by_kind (sees x) refl
    where
      near : (w : Way) → Named (home s h.frame) w → sees (number_of w) ≡ false → other.gone (expand v w) → ⊥
      near w named_w plain o = gone_off s sees h.frame other v view_here facts viewed alone w (expand v w) named_w plain (inl (under_itself (expand v w))) o

      through : (l : Lifted v u) → ⊥
      through l = elim (viewed.views.0 l.object l.way l.has) [
        | inl own ↦ (let on = next (home s h.frame) sees v view_here facts viewed.views u l own named in
            near (next_of v u l) on.plain.0 on.plain.1 (subst other.gone (sym on.same) gone))
        | inr passed ↦ viewed.whole l.object l.way (expand v u) l.has (inr passed.given) gone
            (inr (subst (Under l.way) (sym (lifted_way v u l)) (on_under l.way l.rest)))
      ]

      by_kind : (b : Bool) → sees x ≡ b → ⊥
      by_kind false e = near u named (ap sees root ∙ e) gone
      by_kind true e = through (lifted e)

  -- what a name stands for wasn't moved
  unmoved : (x : ℕ) (u : Way) → Named (home s h.frame) u → number_of u ≡ x → (sees x ≡ true → Lifted v u) → Clears x u
      → ExcusedBy (home s h.frame) v other facts (expand v u) → ⊥
  unmoved x u named root lifted clears (inr gone) = not_gone x u named root lifted gone
  unmoved x u named root lifted clears (inl moved) = by_kind (sees x) refl
    where
      by_kind : (b : Bool) → sees x ≡ b → ⊥
      by_kind false e =
          clean_away (home s h.frame) sees other v view_here facts viewed u (expand v u) (named, ap sees root ∙ e)
          (clears e).0 (clears e).1 (under_itself (expand v u)) moved
      by_kind true e =
          let l = lifted e in
          seen_away_below (home s h.frame) sees other v view_here facts viewed u (expand v u) l named
          (ap sees (sym (lifted_root v u l) ∙ root) ∙ e) (under_itself (expand v u)) moved

  -- a name of a named access type
  owner_shows : (on : List (List machine.Word)) (y t d : ℕ) (c : Bool) (way : List run.Step) → Starts s.table (object_at s y).of way t → shape_of s.table t ≡ shape.Access d c true
      → (ExcusedBy (home s h.frame) v other facts (expand v (way_along way (variable y))) → ⊥)
      → IsOwners s (expand v (way_along way (variable y))) → IsPlace v (way_along way (variable y)) → HasNoPart v (way_along way (variable y))
      → (is_bundle s y ≡ false → is_view s y ≡ true → (l : Lifted v (way_along way (variable y))) × (l.object ≡ y))
      → (is_bundle s y ≡ true → InPart v (way_along way (variable y)))
      → (x : Evaluated Place) → Walked s settled hands leaks m on (expand v (way_along way (variable y))) t x
      → Quiet (at on) (Shows y d (way_along way (variable y))) (followed_by x (held_or_taken h AsView))
  owner_shows on y t d c way starts is clean rooted place none lifts inner (Done k n) (l, same, spot, reaches, of) =
      let access : shape_of s.table k.of ≡ shape.Access d c true = ap (shape_of s.table) of ∙ is in
      let moved : Way → Type 0 = ExcusedBy (home s h.frame) v other facts in
      let slots = one_slot s settled hands leaks m on moved kept viewed.owned viewed.known live k l d c spot access in (
        same,
        record {
          word = (get_or (slots_at s m k.base) k.at no_slot).word;
          is = ap (λ (z : Now). words_of s z.memory k) same ∙ ap (map (λ (z : Slot). z.word)) slots;
          designated = owner_designates h sees settled hands leaks m on other facts v kept viewed holds live (way_along way (variable y)) k l d c spot rooted reaches
              place none access clean;
          typed = λ q e. (let cell = cell_spot s settled hands leaks m on moved kept viewed.owned viewed.known live k l d c q spot access e in
              (cell.made.0, cell.made.1, cell.of));
          goes = λ q e. (
            (λ bare view. (let l = lifts bare view in (further v Down (way_along way (variable y)) l.0, l.1))),
            (λ bundle. further_in v Down (way_along way (variable y)) (inner bundle)),
          );
        },
      )
  owner_shows on y t d c way starts is clean rooted place none lifts inner (Raises e n) same = same
  owner_shows on y t d c way starts is clean rooted place bare lifts inner (Traps e n) none = none

  -- a view itself
  view_shows : (on : List (List machine.Word)) (y d : ℕ) (c n : Bool) → shape_of s.table (object_at s y).of ≡ shape.Access d c n → is_view s y ≡ true
      → Quiet (at on) (Shows y d (variable y)) (followed_by (walked s [] (variable_place h y) (at on)) (held_or_taken h AsView))
  view_shows on y d c n is view = (
    refl,
    record {
      word = (get_or (variable_slots s (home s h.frame y) y m.variables) 0 no_slot).word;
      is = names.one_slot h sees seeing settled hands leaks m on other facts v kept viewed holds alone live y d c n is;
      designated = view_designates h sees settled hands leaks m on other facts v kept viewed holds live y view (access_bundle s y (d, c, n, is));
      typed = λ k e. kept.points (OfRoot (OfVariable (home s h.frame y) y)) [] d c n k refl is e;
      goes = λ k e. (
        (λ bare any. (let own = holds.held y k view bare e in
            (record { frame = home s h.frame y; object = y; rest = []; way = own.0; is = refl; has = own.1 }, refl))),
        (λ bundle. absurd (bundle_access s y d c n bundle is)),
      );
    },
  )

  -- through an observer without a value nothing is found
  named_shows : (on : List (List machine.Word)) (y t d : ℕ) (c : Bool) (way : List run.Step) → Starts s.table (object_at s y).of way t → shape_of s.table t ≡ shape.Access d c true
      → Clears y (way_along way (variable y)) → is_bundle s y ≡ false
      → Walked s settled hands leaks m on (expand v (way_along way (variable y))) t (walked s way (variable_place h y) (at on))
      → Quiet (at on) (Shows y d (way_along way (variable y))) (followed_by (walked s way (variable_place h y) (at on)) (held_or_taken h AsView))
  named_shows on y t d c way starts is clears bare there =
      let u : Way = way_along way (variable y) in
      let named : Named (home s h.frame) u = named_along (home s h.frame) way (variable y) refl in
      let root : number_of u ≡ y = number_along way (variable y) in
      by_either (name_lifted h sees seeing settled hands leaks m on other facts v kept viewed holds alone live y t way bare (λ e b q shape_is. named_is d e c b q (sym is ∙ shape_is)) starts)
      (λ plain. (owner_shows on y t d c way starts is
      (λ moved. unmoved y u named root (λ e. absurd (not_both (sees y) e (plain_sees s sees seeing y plain))) clears moved)
      (stands_owners s sees h.frame v m u holds named
      (inl (ap (is_view_formal s) root ∙ (neither (is_anonymous (view_of s y)) (is_view_formal s y) plain).1)))
      (is_place s v (home s h.frame y) y t way starts (λ e b q shape_is. named_is d e c b q (sym is ∙ shape_is))
      (λ formal none. not_both (is_view_formal s y) formal (neither (is_anonymous (view_of s y)) (is_view_formal s y) plain).1) holds.only)
      (inr (λ p. ap (λ z. v.part_way z p) root ∙ names.seen_parts h sees seeing settled hands leaks m on other facts v kept viewed holds alone live y (plain_sees s sees seeing y plain) p))
      (λ e view. absurd (not_both (is_view s y) view plain)) (λ e. absurd (not_both (is_bundle s y) e bare))
      (walked s way (variable_place h y) (at on)) there))
      (λ more. (by_either more
      (λ lifted. (owner_shows on y t d c way starts is (λ moved. unmoved y u named root (λ e. lifted.0) clears moved) lifted.2
      (lifted_place v u lifted.0) (inl (lifted_deep v u lifted.0)) (λ e view. (lifted.0, lifted.1)) (λ e. absurd (not_both (is_bundle s y) e bare))
      (walked s way (variable_place h y) (at on)) there))
      (λ more. (by_either more
      (λ raises. (raised (walked s way (variable_place h y) (at on)) raises))
      (λ itself. (subst (λ z. Quiet (at on) (Shows y d (way_along z (variable y))) (followed_by (walked s z (variable_place h y) (at on)) (held_or_taken h AsView)))
      (sym itself.1) (view_shows on y d c true (ap (shape_of s.table) (subst (λ z. Starts s.table (object_at s y).of z t) itself.1 starts) ∙ is)
      (either_true (is_anonymous (view_of s y)) (is_view_formal s y) itself.0))))))))
    where
      raised : (x : Evaluated Place) → IsRaised h sees seeing settled hands leaks m on other facts v kept viewed holds alone live m x → Quiet (at on) (Shows y d (way_along way (variable y))) (followed_by x (held_or_taken h AsView))
      raised (Raises e n) same = same
      raised (Done k n) none = absurd none
      raised (Traps e n) none = absurd none

  -- in a formal with parts, or through one of them
  bundle_shows : (on : List (List machine.Word)) (y t d : ℕ) (c : Bool) (way : List run.Step) → Starts s.table (object_at s y).of way t → shape_of s.table t ≡ shape.Access d c true
      → is_bundle s y ≡ true → Walked s settled hands leaks m on (expand v (way_along way (variable y))) t (walked s way (variable_place h y) (at on))
      → Quiet (at on) (Shows y d (way_along way (variable y))) (followed_by (walked s way (variable_place h y) (at on)) (held_or_taken h AsView))
  bundle_shows on y t d c way starts is bundle there = elim (names.bundle_cases h sees seeing settled hands leaks m on other facts v kept viewed holds alone live y t way bundle starts) [
    | inr (inl inner) ↦ owner_shows on y t d c way starts is
        (λ excused. part_whole s sees h.frame other v view_here facts viewed alone (way_along way (variable y)) inner (expand v (way_along way (variable y))) excused
        (inl (under_itself (expand v (way_along way (variable y))))))
        (part_owners s sees h.frame v m (way_along way (variable y)) holds inner) (in_part_place v (way_along way (variable y)) inner)
        (inl (in_part_deep v (way_along way (variable y)) inner)) (λ bare view. absurd (not_both (is_bundle s y) bundle bare)) (λ e. inner)
        (walked s way (variable_place h y) (at on)) there
    | inr (inr raises) ↦ raised (walked s way (variable_place h y) (at on)) raises
    | inl own ↦ (
        let q : List Step = own.0 in
        let k : Place = own.1 in
        let access : shape_of s.table k.of ≡ shape.Access d c true = ap (shape_of s.table) own.5 ∙ is in
        let moved : Way → Type 0 = ExcusedBy (home s h.frame) v other facts in
        let slots = one_slot s settled hands leaks m on moved kept viewed.owned viewed.known live k (names.InBundle h sees seeing settled hands leaks m on other facts v kept viewed holds alone live y q) d c own.4 access in
        subst (λ z. Quiet (at on) (Shows y d (way_along way (variable y))) (followed_by z (held_or_taken h AsView))) (sym own.3) (
          refl,
          record {
            word = (get_or (slots_at s m k.base) k.at no_slot).word;
            is = ap (map (λ (z : Slot). z.word)) slots;
            designated = λ n e. (let part = names.part_found_there h sees seeing settled hands leaks m on other facts v kept viewed holds alone live y q k d c true n bundle own.4 access e in
                subst (λ z. Reaches view_here z (OfCell n)) (sym (ap (λ z. expand v (All z)) own.2 ∙ part.2)) part.3);
            typed = λ n e. (let cell = cell_spot s settled hands leaks m on moved kept viewed.owned viewed.known live k
                (names.InBundle h sees seeing settled hands leaks m on other facts v kept viewed holds alone live y q) d c n own.4 access e in
                (cell.made.0, cell.made.1, cell.of));
            goes = λ n e. (
              (λ bare view. absurd (not_both (is_bundle s y) bundle bare)),
              (λ any. (let part = names.part_found_there h sees seeing settled hands leaks m on other facts v kept viewed holds alone live y q k d c true n bundle own.4 access e in
                  record {
                    frame = home s h.frame y;
                    object = y;
                    steps = q;
                    rest = [];
                    way = part.0;
                    is = ap All own.2;
                    has = part.1;
                    deep = part.4;
                  })),
            );
          },
        ))
  ]
    where
      raised : (x : Evaluated Place) → IsRaised h sees seeing settled hands leaks m on other facts v kept viewed holds alone live m x → Quiet (at on) (Shows y d (way_along way (variable y))) (followed_by x (held_or_taken h AsView))
      raised (Raises e n) same = same
      raised (Done k n) none = absurd none
      raised (Traps e n) none = absurd none

  by_bundle : (on : List (List machine.Word)) (y t d : ℕ) (c : Bool) (way : List run.Step) → Starts s.table (object_at s y).of way t → shape_of s.table t ≡ shape.Access d c true
      → Clears y (way_along way (variable y))
      → Walked s settled hands leaks m on (expand v (way_along way (variable y))) t (walked s way (variable_place h y) (at on)) → (b : Bool) → is_bundle s y ≡ b
      → Quiet (at on) (Shows y d (way_along way (variable y))) (followed_by (walked s way (variable_place h y) (at on)) (held_or_taken h AsView))
  by_bundle on y t d c way starts is clears there true bundle = bundle_shows on y t d c way starts is bundle there
  by_bundle on y t d c way starts is clears there false bare = named_shows on y t d c way starts is clears bare there

  by_way : (on : List (List machine.Word)) (y t d : ℕ) (c n : Bool) (way : List run.Step) → Starts s.table (object_at s y).of way t → shape_of s.table t ≡ shape.Access d c n
      → Clears y (way_along way (variable y))
      → Walked s settled hands leaks m on (expand v (way_along way (variable y))) t (walked s way (variable_place h y) (at on))
      → Quiet (at on) (Shows y d (way_along way (variable y))) (followed_by (walked s way (variable_place h y) (at on)) (held_or_taken h AsView))
  by_way on y t d c true way starts is clears there = by_bundle on y t d c way starts is clears there (is_bundle s y) refl
  by_way on y t d c false [] starts is clears there =
      let shape_is = ap (shape_of s.table) starts ∙ is in
      view_shows on y d c false shape_is
      (ap (λ b. b || is_view_formal s y) (ap (λ z. is_anonymous (view_of_shape z)) shape_is ∙ anonymous_access c))
  by_way on y t d c false (step ∷ rest) starts is clears there =
      (let no : false ≡ true = starts_named s.table parts_named (object_at s y).of t step rest starts d c false is in absurd (false≢true no))

  -- the source of a view: nothing changes but what waits, and it has null, or the number of the cell
  -- that its name designates
  pub source_on : (before on : List (List machine.Word)) (p : Pos) (y t d : ℕ) (c n : Bool) (steps : TypedTree) → Leads s (object_at s y).of steps t
      → shape_of s.table t ≡ shape.Access d c n → Takes (waiting steps) before on → AllowsAll facts (acts (acts_in s steps))
      → ((u : Way) → ways.name_of u ≡ name_of y steps → Clears y u)
      → Quiet (at on) (λ ws. (u : Way) × Named (home s h.frame) u × (ways.name_of u ≡ name_of y steps) × Shows y d u ws) (evaluate h AsView (Name p y steps t) (at before))
  unfolding evaluate
  source_on before on p y t d c n steps lead is takes allowed clears =
      quiet_then (at on) (λ way. Goes s.table (object_at s y).of t steps way)
      (λ ws. (u : Way) × Named (home s h.frame) u × (ways.name_of u ≡ name_of y steps) × Shows y d u ws) (steps_of h steps (at before))
      (λ way now. followed_by (walked s way (variable_place h y) now) (held_or_taken h AsView))
      (steps_taking h sees seeing settled hands leaks m waits other facts v kept viewed holds alone live index_law own_law parts_named (object_at s y).of t steps lead before on takes allowed).0
      (λ way goes. (
      let u : Way = way_along way (variable y) in
      let called : ways.name_of u ≡ name_of y steps = (λ j. record { root = number_along way (variable y) j; sels = goes.sels (variable y) j }) in
      let named : Named (home s h.frame) u = named_along (home s h.frame) way (variable y) refl in
      with_name y d u (name_of y steps) named called (followed_by (walked s way (variable_place h y) (at on)) (held_or_taken h AsView))
      (by_way on y t d c n way goes.lead is (clears u called)
      (names.name_walked h sees seeing settled hands leaks m on other facts v kept viewed holds alone live y t way goes.lead
      (λ e. cleared_open facts u (clears u called e))))))
    where
      with_name : (y d : ℕ) (u : Way) (name : PlaceName) → Named (home s h.frame) u → ways.name_of u ≡ name → (x : Evaluated (List machine.Word)) → Quiet (at on) (Shows y d u) x
          → Quiet (at on) (λ ws. (u : Way) × Named (home s h.frame) u × (ways.name_of u ≡ name) × Shows y d u ws) x
      with_name y d u name named called (Done ws n) (same, shows) = (same, (u, named, called, shows))
      with_name y d u name named called (Raises e n) same = same
      with_name y d u name named called (Traps e n) none = none

  pub source_quiet : (p : Pos) (y t d : ℕ) (c n : Bool) (steps : TypedTree) → Leads s (object_at s y).of steps t → shape_of s.table t ≡ shape.Access d c n
      → has_call steps ≡ false → AllowsAll facts (acts (acts_in s steps))
      → ((u : Way) → ways.name_of u ≡ name_of y steps → Clears y u)
      → Quiet (at waits) (λ ws. (u : Way) × Named (home s h.frame) u × (ways.name_of u ≡ name_of y steps) × Shows y d u ws) (evaluate h AsView (Name p y steps t) (at waits))
  source_quiet p y t d c n steps lead is calls allowed clears = source_on waits waits p y t d c n steps lead is (no_takes steps calls waits) allowed clears
