-- The views of what is called: its formals that own nothing, with the ways of what they are shown.
use Rattle.std.proofs.Common.{◌≡◌, refl, sym, ap, ◌∙◌, subst, ◌⊎◌, inl, inr, ℕ, suc, ◌<◌, get_or, arith, Bool, true, false, ◌&&◌, ◌==◌, eqb-true, eq-eqb, List, [], ◌∷◌, Option, Some, None, if◌then◌else◌, is_some}
use Rattle.std.proofs.lemmas.Bool.{false≢true, true≢false}
use Rattle.machine.specs.spark_base.Lists.{Has}
use Rattle.machine.specs.place_names.declared.act.Mode.{Mode}
use Rattle.machine.specs.place_names.declared.act.Mode.TheVariants as mode
use Rattle.machine.specs.place_names.declared.fact.Fact.{Fact}
use Rattle.machine.specs.typed_tree.declared.object.ObjectKind.{ObjectKind}
use Rattle.machine.specs.typed_tree.declared.object.ObjectKind.TheVariants as object_kind
use Rattle.machine.specs.place_names.Names.{Name as PlaceName}
use Rattle.machine.specs.place_names.declared.act.Act.{Act}
use Rattle.machine.specs.typed_tree.Trees.{TypedTree, Name, More}
use Rattle.machine.specs.flow_paths.Instructions.{Instruction}
use Rattle.machine.specs.flow_paths.Objects.{Typing, object_at, is_formal, is_formal_kind, is_variable, is_package_object}
use Rattle.machine.specs.flow_paths.Laid.{FlowProgram, flow_typing}
use Rattle.machine.specs.flow_paths.Scopes.{is_within, is_temporary}
use Rattle.machine.specs.Words as machine
use Rattle.machine.specs.Memory.{Memory, fresh, variable_slots, no_slot}
use Rattle.machine.specs.Owners.{is_in}
use Rattle.machine.specs.Evaluate.{Here}
use Rattle.machine.specs.Calls.{Passed, Value, From, To}
use Rattle.machine.specs.States.{Waiting, Leak}
use Rattle.soundness.specs.OwnedWays.Ways.{Loc, OfCell, Way, Lost, All, View, Reaches, Under, Named, number_of, Step, along}
use Rattle.soundness.specs.OwnedWays.Ways as ways
use Rattle.soundness.proofs.OwnedWays.Locations.{under_itself, under_along}
use Rattle.soundness.specs.PartOffsets.Parts.{IsSettled, has_part, type_in, offset_in}
use Rattle.machine.specs.type_definitions.declared.table.Shape.{Shape}
use Rattle.machine.specs.type_definitions.declared.table.Shape.TheVariants as shape
use Rattle.machine.specs.type_definitions.Types.{shape_of}
use Rattle.soundness.specs.Seen.{IsNear, content, trunk, seen, home}
use Rattle.soundness.specs.Typed.{OwnsByShape, Kept}
use Rattle.soundness.specs.TypedLaws.Needed.{IndexLaw}
use Rattle.soundness.specs.OwnedLoans.Views.{Around, Views, AreViews, ExcusedBy, Viewed, with_view}
use Rattle.soundness.specs.ViewedSoundness.Holds.{PartsAreNamed, is_view, IsOwners, Holds, PartsHold, is_given, is_bundle, GoesBy, Seeing}
use Rattle.soundness.proofs.ViewedSoundness.Given.{IsLow, low_begins, low_there}
use Rattle.soundness.proofs.ViewedSoundness.ViewKinds.{true_false, bundle_view}
use Rattle.viewed_steps.specs.Sound.{Lies, ArePlaced, NoneAbove, ArePartsLow}
use Rattle.viewed_steps.specs.Awaited.{is_held, IsTakenBy}
use Rattle.viewed_steps.specs.Traversals.{TraversalCall, call_in, traversed_name, AreRooted, SeesFirst}
use Rattle.viewed_steps.proofs.First.{way_at}
use Rattle.viewed_steps.proofs.Rooted.{formal_root}
use Rattle.viewed_steps.specs.Ready.{AreDifferent}
use Rattle.viewed_steps.proofs.Called.{IsGiven, AreGiven}
use Rattle.viewed_steps.proofs.Entered.{IsShownTo, HasWords}
use Rattle.machine.specs.flow_paths.Aliases as alias
use Rattle.viewed_steps.proofs.Seeing.{Sees, SeesPart, SeesParts, IsCalledBy, named_written}
use Rattle.viewed_steps.proofs.Lending.{IsNameOf}
use Rattle.machine.specs.flow_paths.Names.{Written}
use Rattle.viewed_steps.proofs.Exclusive.{IsLentAs, IsFrom, IsSeenFrom}
use Rattle.viewed_steps.proofs.Lending.{IsActualOf, actual_named}
use Rattle.viewed_steps.proofs.Views.{AreLowFormals, AreAccess, not_elsewhere, given_type, given_formal, bundle_given}
use Rattle.viewed_steps.proofs.Waited.{plain_unheld}
use Rattle.viewed_steps.proofs.Constructors.{is_access_shape, is_cell_word, is_value_passed}
use Rattle.soundness.proofs.Parted.{int_cell, position_cell, null_cell, by_either}

abbrev pub no_views : Views
no_views = record { way = λ x. None; loan = λ x. Lost 0; up = λ x. Lost 0; cell = λ x. 0; part_way = λ x p. None; part_cell = λ x p. 0 }

actual_has : (formals : List ℕ) (actuals : TypedTree) (y : ℕ) (a : TypedTree) → IsActualOf formals actuals y a → Has formals y
actual_has (x ∷ formals) (More e rest) y a (inl first) = inl first.0
actual_has (x ∷ formals) (More e rest) y a (inr later) = inr (actual_has formals rest y a later)
actual_has [] actuals y a of = absurd of
actual_has (x ∷ formals) _ y a of = absurd of

shown_has : (formals : List ℕ) (passed : List Passed) (y : ℕ) (ws : List machine.Word) → IsShownTo formals passed y ws → Has formals y
shown_has [] passed y ws shown = absurd shown
shown_has (x ∷ formals) [] y ws shown = absurd shown
shown_has (x ∷ formals) (a ∷ passed) y ws (inl here) = inl here.0
shown_has (x ∷ formals) (a ∷ passed) y ws (inr later) = inr (shown_has formals passed y ws later)

-- the first of words that are passed
abbrev pub first_word : List machine.Word → machine.Word
first_word ws = (get_or (fresh ws) 0 no_slot).word

same_values : (a b : List machine.Word) → Value a ≡ Value b → a ≡ b
same_values a b e = cc

same_ways : (a b : Way) → Some a ≡ Some b → a ≡ b
same_ways a b e = cc

same_cells : (a b : ℕ) → machine.Cell a ≡ machine.Cell b → a ≡ b
same_cells a b e = cc

module _ (h : Here) (sees : ℕ → Bool) (seeing : Seeing h.typing sees) (settled : IsSettled h.typing.table) (hands : List Waiting) (leaks : List Leak) (m : Memory) (waits : List (List machine.Word))
    (other : Around (home h.typing h.frame)) (facts : List Fact) (v : Views)
    (kept : Kept h.typing m hands)
    (well : Viewed (home h.typing h.frame) sees other v (seen h.typing m hands leaks) facts)
    (holds : Holds h.typing sees h.frame v m)
    (alone : (w : Way) → IsNear h.frame w → other.gone w → ⊥)
    (live : (w : Way) (l : Loc) → IsOwners h.typing w → Reaches (seen h.typing m hands leaks) w l → (content h.typing m hands (trunk l)).owns ≡ true)
    (in_formals : AreAccess h.typing)
    (index_law : IndexLaw)
    (own_law : OwnsByShape h.typing.table)
    (parts_named : PartsAreNamed h.typing.table)
    (formals_low : AreLowFormals h.typing h.frame v)
    (procedure : Bool) where
  abbrev s : Typing
  s = h.typing

  abbrev SeesHere : ℕ → Type 0
  SeesHere n =
      (e : TypedTree) × Sees h sees seeing settled hands leaks m waits other facts v kept well holds alone live index_law own_law parts_named formals_low e n

  abbrev Given : List ℕ → TypedTree → List Passed → Type 0
  Given formals actuals passed =
      AreGiven h sees seeing settled hands leaks m waits other facts v kept well holds alone live in_formals index_law own_law parts_named formals_low procedure formals actuals passed

  -- The way of a part of a formal: that of what the actual has there.
  pub record IsPartWay (formals : List ℕ) (actuals : TypedTree) (y : ℕ) (p : List Step) (w : Way) (n : ℕ) : Type 0 where
    pub bundle : is_bundle h.typing y ≡ true
    pub among : Has formals y
    pub e : TypedTree
    pub of : IsActualOf formals actuals y e
    pub from : Way
    pub named : Named (home h.typing h.frame) from
    pub called : IsCalledBy h sees seeing settled hands leaks m waits other facts v kept well holds alone live index_law own_law parts_named formals_low e from
    pub part : SeesPart h sees seeing settled hands leaks m waits other facts v kept well holds alone live index_law own_law parts_named formals_low from p n
    pub is : part.way ≡ w

  -- A part of an access type whose word is the number of a cell.
  pub record IsPartAt (x : ℕ) (ws : List machine.Word) (p : List Step) (k : ℕ) : Type 0 where
    pub d : ℕ
    pub c : Bool
    pub n : Bool
    pub there : has_part h.typing.table (object_at h.typing x).of p ≡ true
    pub access : shape_of h.typing.table (type_in h.typing.table (object_at h.typing x).of p) ≡ shape.Access d c n
    pub word : (get_or (fresh ws) (offset_in h.typing.table (object_at h.typing x).of p) no_slot).word ≡ machine.Cell k

  -- These formals have the ways of what they are shown, and nothing else has one.
  pub record AreOpened (formals : List ℕ) (actuals : TypedTree) (passed : List Passed) (t : Views) : Type 0 where
    pub way : (y : ℕ) (w : Way) → t.way y ≡ Some w → (is_given h.typing y ≡ true) × Has formals y × (sight : SeesHere (t.cell y)) × ((sight.1).way ≡ w)
        × IsActualOf formals actuals y sight.0
    pub held : (y n : ℕ) → is_given h.typing y ≡ true → is_bundle h.typing y ≡ false → (ws : List machine.Word) → IsShownTo formals passed y ws
        → first_word ws ≡ machine.Cell n → (w : Way) × (t.way y ≡ Some w) × (t.cell y ≡ n)
    pub ups : (y : ℕ) → t.up y ≡ Lost 0
    pub bare : (y : ℕ) (w : Way) → t.way y ≡ Some w → is_bundle h.typing y ≡ false
    pub parts : (y : ℕ) (p : List Step) (w : Way) → t.part_way y p ≡ Some w → IsPartWay formals actuals y p w (t.part_cell y p)
    pub part_held : (y : ℕ) (p : List Step) (k : ℕ) → is_bundle h.typing y ≡ true → (ws : List machine.Word) → IsShownTo formals passed y ws → IsPartAt y ws p k
        → (w : Way) × (t.part_way y p ≡ Some w) × (t.part_cell y p ≡ k)

  abbrev pub Opens : List ℕ → TypedTree → List Passed → Type 0
  Opens formals actuals passed = (t : Views) × AreOpened formals actuals passed t

  no_opened : (formals : List ℕ) (actuals : TypedTree) (passed : List Passed) → ((y : ℕ) (ws : List machine.Word) → IsShownTo formals passed y ws → ⊥)
      → Opens formals actuals passed
  no_opened formals actuals passed none = (
    no_views,
    record {
      way = λ y w has. (let no : None ≡ Some w = has in absurd (false≢true (ap is_some no)));
      held = λ y n formal bare ws shown at. absurd (none y ws shown);
      ups = λ y. refl;
      bare = λ y w has. (let no : None ≡ Some w = has in absurd (false≢true (ap is_some no)));
      parts = λ y p w has. (let no : None ≡ Some w = has in absurd (false≢true (ap is_some no)));
      part_held = λ y p k bundle ws shown there. absurd (none y ws shown);
    },
  )

  more_part : (x : ℕ) (e : TypedTree) (formals : List ℕ) (rest : TypedTree) (y : ℕ) (p : List Step) (w : Way) (n : ℕ) → IsPartWay formals rest y p w n
      → IsPartWay (x ∷ formals) (More e rest) y p w n
  more_part x e formals rest y p w n one = record {
    bundle = one.bundle;
    among = inr one.among;
    e = one.e;
    of = inr one.of;
    from = one.from;
    named = one.named;
    called = one.called;
    part = one.part;
    is = one.is;
  }

  -- a formal without a cell changes nothing
  passes_by : (x : ℕ) (e : TypedTree) (a : Passed) (formals : List ℕ) (rest : TypedTree) (passed : List Passed)
      → (is_given s x ≡ true → is_bundle s x ≡ false → (ws : List machine.Word) (n : ℕ) → a ≡ Value ws → first_word ws ≡ machine.Cell n → ⊥)
      → (is_bundle s x ≡ true → (ws : List machine.Word) → a ≡ Value ws → ⊥) → Opens formals rest passed → Opens (x ∷ formals) (More e rest) (a ∷ passed)
  passes_by x e a formals rest passed none single these = let (t, are) = these in (
    t,
    record {
      way = λ y w has. (let found = are.way y w has in (found.0, inr found.1, found.2, found.3, inr found.4));
      held = λ y n formal bare ws shown at. by_either shown
          (λ here. (absurd (none (ap (is_given s) here.0 ∙ formal) (ap (is_bundle s) here.0 ∙ bare) ws n here.1 at)))
          (λ later. (are.held y n formal bare ws later at));
      ups = are.ups;
      bare = are.bare;
      parts = λ y p w has. more_part x e formals rest y p w (t.part_cell y p) (are.parts y p w has);
      part_held = λ y p k bundle ws shown there. by_either shown
          (λ here. (absurd (single (ap (is_bundle s) here.0 ∙ bundle) ws here.1)))
          (λ later. (are.part_held y p k bundle ws later there));
    },
  )

  abbrev IsWay : List ℕ → TypedTree → TypedTree → ℕ → ℕ → Way → ℕ → Type 0
  IsWay formals e rest x y w c =
      (is_given s y ≡ true) × Has (x ∷ formals) y × (found : SeesHere c) × ((found.1).way ≡ w) × IsActualOf (x ∷ formals) (More e rest) y found.0

  -- one with a cell has the way to it
  opens_one : (x n : ℕ) (e : TypedTree) (formals : List ℕ) (rest : TypedTree) (passed : List Passed) → is_given s x ≡ true → is_bundle s x ≡ false → (sight : SeesHere n) → e ≡ sight.0
      → ((y : ℕ) → Has formals y → y ≡ x → ⊥) → Opens formals rest passed → Opens (x ∷ formals) (More e rest) (Value (machine.Cell n ∷ []) ∷ passed)
  opens_one x n e formals rest passed formal single sight named differ (t, are) = (
    with_view t x (Some (sight.1).way) (Lost 0) (Lost 0) n,
    record {
      way = way_of;
      held = held_of;
      ups = ups_of;
      bare = bare_of;
      parts = λ y p w has. more_part x e formals rest y p w (t.part_cell y p) (are.parts y p w has);
      part_held = λ y p k bundle ws shown there. by_either shown
          (λ here. (absurd (true_false (is_bundle s x) (ap (is_bundle s) here.0 ∙ bundle) single)))
          (λ later. (are.part_held y p k bundle ws later there));
    },
  )
    where
      same_number : (k : ℕ) (ws : List machine.Word) → Value (machine.Cell n ∷ []) ≡ Value ws → first_word ws ≡ machine.Cell k → n ≡ k
      same_number k ws is at = same_cells n k (ap first_word (same_values (machine.Cell n ∷ []) ws is) ∙ at)

      way_of : (y : ℕ) (w : Way) → (if y == x then Some (sight.1).way else t.way y) ≡ Some w → IsWay formals e rest x y w (if y == x then n else t.cell y)
      way_of y w has = by_object (y == x) refl has
        where
          by_object : (b : Bool) → (y == x) ≡ b → (if b then Some (sight.1).way else t.way y) ≡ Some w → IsWay formals e rest x y w (if b then n else t.cell y)
          by_object true same is = (
            subst (λ z. is_given s z ≡ true) (sym (eqb-true y x same)) formal,
            inl (sym (eqb-true y x same)),
            sight,
            same_ways (sight.1).way w is,
            inl (sym (eqb-true y x same), named),
          )
          by_object false same is = (let found = are.way y w is in (found.0, inr found.1, found.2, found.3, inr found.4))

      held_of : (y k : ℕ) → is_given s y ≡ true → is_bundle s y ≡ false → (ws : List machine.Word)
          → IsShownTo (x ∷ formals) (Value (machine.Cell n ∷ []) ∷ passed) y ws → first_word ws ≡ machine.Cell k
          → (w : Way) × ((if y == x then Some (sight.1).way else t.way y) ≡ Some w) × ((if y == x then n else t.cell y) ≡ k)
      held_of y k own bare ws shown at = by_object (y == x) refl shown
        where
          by_object : (b : Bool) → (y == x) ≡ b → IsShownTo (x ∷ formals) (Value (machine.Cell n ∷ []) ∷ passed) y ws
              → (w : Way) × ((if b then Some (sight.1).way else t.way y) ≡ Some w) × ((if b then n else t.cell y) ≡ k)
          by_object true e (inl here) = ((sight.1).way, refl, same_number k ws here.1 at)
          by_object true e (inr later) = absurd (differ y (shown_has formals passed y ws later) (eqb-true y x e))
          by_object false e (inl here) = (let no = eq-eqb y x (sym here.0) in let never : true ≡ false = sym no ∙ e in absurd (true≢false never))
          by_object false e (inr later) = are.held y k own bare ws later at

      bare_of : (y : ℕ) (w : Way) → (if y == x then Some (sight.1).way else t.way y) ≡ Some w → is_bundle h.typing y ≡ false
      bare_of y w has = by_object (y == x) refl has
        where
          by_object : (b : Bool) → (y == x) ≡ b → (if b then Some (sight.1).way else t.way y) ≡ Some w → is_bundle h.typing y ≡ false
          by_object true same is = ap (is_bundle s) (eqb-true y x same) ∙ single
          by_object false same is = are.bare y w is

      ups_of : (y : ℕ) → (if y == x then Lost 0 else t.up y) ≡ Lost 0
      ups_of y = by_object (y == x)
        where
          by_object : (b : Bool) → (if b then Lost 0 else t.up y) ≡ Lost 0
          by_object true = refl
          by_object false = are.ups y

  no_cell : (z : machine.Word) (ws : List machine.Word) (n : ℕ) → Value (z ∷ []) ≡ Value ws → first_word ws ≡ machine.Cell n → ((k : ℕ) → z ≡ machine.Cell k → ⊥) → ⊥
  no_cell z ws n e at none = none n (ap first_word (same_values (z ∷ []) ws e) ∙ at)

  not_bundle : (x : ℕ) → is_bundle s x ≡ false → {a : Passed} → is_bundle s x ≡ true → (ws : List machine.Word) → a ≡ Value ws → ⊥
  not_bundle x single bundle ws is = true_false (is_bundle s x) bundle single

  -- one with parts has their ways
  same_part : (x : ℕ) (ws : List machine.Word) (p : List Step) (a b : ℕ) → IsPartAt x ws p a → IsPartAt x ws p b → a ≡ b
  same_part x ws p a b one two = same_cells a b (sym one.word ∙ two.word)

  -- a formal has such a part, or it doesn't
  part_at : (x : ℕ) (ws : List machine.Word) (p : List Step) → ((k : ℕ) × IsPartAt x ws p k) ⊎ ((k : ℕ) → IsPartAt x ws p k → ⊥)
  part_at x ws p = by_part (has_part s.table (object_at s x).of p) refl
    where
      by_word : (w : machine.Word) → (get_or (fresh ws) (offset_in s.table (object_at s x).of p) no_slot).word ≡ w → has_part s.table (object_at s x).of p ≡ true
          → (d : ℕ) (c n : Bool) → shape_of s.table (type_in s.table (object_at s x).of p) ≡ shape.Access d c n
          → ((k : ℕ) × IsPartAt x ws p k) ⊎ ((k : ℕ) → IsPartAt x ws p k → ⊥)
      by_word (machine.Cell k) word there d c n is = inl (k, record { d = d; c = c; n = n; there = there; access = is; word = word })
      by_word (machine.Int a) word there d c n is = inr (λ k one. (let no : machine.Int a ≡ machine.Cell k = sym word ∙ one.word in absurd (false≢true (ap is_cell_word no))))
      by_word (machine.Enumerated a) word there d c n is = inr (λ k one. (let no : machine.Enumerated a ≡ machine.Cell k = sym word ∙ one.word in absurd (false≢true (ap is_cell_word no))))
      by_word machine.Null word there d c n is = inr (λ k one. (let no : machine.Null ≡ machine.Cell k = sym word ∙ one.word in absurd (false≢true (ap is_cell_word no))))

      by_shape : (sh : Shape) → shape_of s.table (type_in s.table (object_at s x).of p) ≡ sh → has_part s.table (object_at s x).of p ≡ true
          → ((k : ℕ) × IsPartAt x ws p k) ⊎ ((k : ℕ) → IsPartAt x ws p k → ⊥)
      by_shape (shape.Access d c n) is there = by_word (get_or (fresh ws) (offset_in s.table (object_at s x).of p) no_slot).word refl there d c n is
      by_shape (shape.Whole a b) is there = inr (λ k one. (let no : shape.Whole a b ≡ shape.Access one.d one.c one.n = sym is ∙ one.access in absurd (false≢true (ap is_access_shape no))))
      by_shape (shape.Listed l a b) is there = inr (λ k one. (let no : shape.Listed l a b ≡ shape.Access one.d one.c one.n = sym is ∙ one.access in absurd (false≢true (ap is_access_shape no))))
      by_shape (shape.Fields cs) is there = inr (λ k one. (let no : shape.Fields cs ≡ shape.Access one.d one.c one.n = sym is ∙ one.access in absurd (false≢true (ap is_access_shape no))))
      by_shape (shape.Elements a b el) is there = inr (λ k one. (let no : shape.Elements a b el ≡ shape.Access one.d one.c one.n = sym is ∙ one.access in absurd (false≢true (ap is_access_shape no))))
      by_shape (shape.Same of) is there = inr (λ k one. (let no : shape.Same of ≡ shape.Access one.d one.c one.n = sym is ∙ one.access in absurd (false≢true (ap is_access_shape no))))

      by_part : (b : Bool) → has_part s.table (object_at s x).of p ≡ b → ((k : ℕ) × IsPartAt x ws p k) ⊎ ((k : ℕ) → IsPartAt x ws p k → ⊥)
      by_part true there = by_shape (shape_of s.table (type_in s.table (object_at s x).of p)) refl there
      by_part false none = inr (λ k one. true_false (has_part s.table (object_at s x).of p) one.there none)

  opens_parts : (x : ℕ) (ws : List machine.Word) (e : TypedTree) (formals : List ℕ) (rest : TypedTree) (passed : List Passed) → is_bundle s x ≡ true
      → SeesParts h sees seeing settled hands leaks m waits other facts v kept well holds alone live index_law own_law parts_named formals_low x e ws
      → ((y : ℕ) → Has formals y → y ≡ x → ⊥) → Opens formals rest passed → Opens (x ∷ formals) (More e rest) (Value ws ∷ passed)
  opens_parts x ws e formals rest passed bundle seen_parts differ (t, are) = (
    record t {
      part_way = λ y p. if y == x then way_in p (part_at x ws p) else t.part_way y p;
      part_cell = λ y p. if y == x then cell_in p (part_at x ws p) else t.part_cell y p;
    },
    record {
      way = λ y w has. (let found = are.way y w has in (found.0, inr found.1, found.2, found.3, inr found.4));
      held = λ y n formal single us shown at. by_either shown
          (λ here. (absurd (true_false (is_bundle s x) bundle (ap (is_bundle s) here.0 ∙ single))))
          (λ later. (are.held y n formal single us later at));
      ups = are.ups;
      bare = are.bare;
      parts = λ y p w has. parts_of y p w (y == x) refl has;
      part_held = λ y p k is us shown there. held_of y p k is us shown there (y == x) refl;
    },
  )
    where
      part_of : (p : List Step) (k : ℕ) → IsPartAt x ws p k
          → SeesPart h sees seeing settled hands leaks m waits other facts v kept well holds alone live index_law own_law parts_named formals_low seen_parts.from p k
      part_of p k one = seen_parts.parts p one.d one.c one.n k one.there one.access one.word

      way_in : (p : List Step) → ((k : ℕ) × IsPartAt x ws p k) ⊎ ((k : ℕ) → IsPartAt x ws p k → ⊥) → Option Way
      way_in p (inl found) = Some (part_of p found.0 found.1).way
      way_in p (inr none) = None

      cell_in : (p : List Step) → ((k : ℕ) × IsPartAt x ws p k) ⊎ ((k : ℕ) → IsPartAt x ws p k → ⊥) → ℕ
      cell_in p (inl found) = found.0
      cell_in p (inr none) = 0

      own_part : (y : ℕ) (p : List Step) (w : Way) → x ≡ y → (o : ((k : ℕ) × IsPartAt x ws p k) ⊎ ((k : ℕ) → IsPartAt x ws p k → ⊥)) → way_in p o ≡ Some w
          → IsPartWay (x ∷ formals) (More e rest) y p w (cell_in p o)
      own_part y p w same (inl found) has = record {
        bundle = ap (is_bundle s) (sym same) ∙ bundle;
        among = inl same;
        e = e;
        of = inl (same, refl);
        from = seen_parts.from;
        named = seen_parts.from_named;
        called = seen_parts.called;
        part = part_of p found.0 found.1;
        is = same_ways (part_of p found.0 found.1).way w has;
      }
      own_part y p w same (inr none) has = (let no : None ≡ Some w = has in absurd (false≢true (ap is_some no)))

      parts_of : (y : ℕ) (p : List Step) (w : Way) (b : Bool) → (y == x) ≡ b → (if b then way_in p (part_at x ws p) else t.part_way y p) ≡ Some w
          → IsPartWay (x ∷ formals) (More e rest) y p w (if b then cell_in p (part_at x ws p) else t.part_cell y p)
      parts_of y p w true same has = own_part y p w (sym (eqb-true y x same)) (part_at x ws p) has
      parts_of y p w false same has = more_part x e formals rest y p w (t.part_cell y p) (are.parts y p w has)

      own_held : (p : List Step) (k : ℕ) → IsPartAt x ws p k → (o : ((k : ℕ) × IsPartAt x ws p k) ⊎ ((k : ℕ) → IsPartAt x ws p k → ⊥))
          → (w : Way) × (way_in p o ≡ Some w) × (cell_in p o ≡ k)
      own_held p k one (inl found) = ((part_of p found.0 found.1).way, refl, same_part x ws p found.0 k found.1 one)
      own_held p k one (inr none) = absurd (none k one)

      held_of : (y : ℕ) (p : List Step) (k : ℕ) → is_bundle s y ≡ true → (us : List machine.Word) → IsShownTo (x ∷ formals) (Value ws ∷ passed) y us → IsPartAt y us p k
          → (b : Bool) → (y == x) ≡ b
          → (w : Way) × ((if b then way_in p (part_at x ws p) else t.part_way y p) ≡ Some w) × ((if b then cell_in p (part_at x ws p) else t.part_cell y p) ≡ k)
      held_of y p k is us (inl here) there true same =
          own_held p k (subst (λ z. IsPartAt z ws p k) (eqb-true y x same) (subst (λ z. IsPartAt y z p k) (sym (same_values ws us here.1)) there)) (part_at x ws p)
      held_of y p k is us (inl here) there false same = (let yes = eq-eqb y x (sym here.0) in let never : true ≡ false = sym yes ∙ same in absurd (true≢false never))
      held_of y p k is us (inr later) there true same = absurd (differ y (shown_has formals passed y us later) (eqb-true y x same))
      held_of y p k is us (inr later) there false same = are.part_held y p k is us later there

  abbrev SeesBy : TypedTree → ℕ → Type 0
  SeesBy e n = (sight : SeesHere n) × (e ≡ sight.0)

  by_word : (x : ℕ) (z : machine.Word) (e : TypedTree) (formals : List ℕ) (rest : TypedTree) (passed : List Passed) → is_given s x ≡ true → is_bundle s x ≡ false
      → ((n : ℕ) → z ≡ machine.Cell n → SeesBy e n) → ((y : ℕ) → Has formals y → y ≡ x → ⊥)
      → Opens formals rest passed → Opens (x ∷ formals) (More e rest) (Value (z ∷ []) ∷ passed)
  by_word x (machine.Cell n) e formals rest passed formal single sight differ more =
      opens_one x n e formals rest passed formal single (sight n refl).0 (sight n refl).1 differ more
  by_word x (machine.Int k) e formals rest passed formal single sight differ more =
      passes_by x e (Value (machine.Int k ∷ [])) formals rest passed (λ own bare ws n is at. no_cell (machine.Int k) ws n is at (λ q no. int_cell no)) (not_bundle x single) more
  by_word x (machine.Enumerated k) e formals rest passed formal single sight differ more =
      passes_by x e (Value (machine.Enumerated k ∷ [])) formals rest passed (λ own bare ws n is at. no_cell (machine.Enumerated k) ws n is at (λ q no. position_cell no)) (not_bundle x single) more
  by_word x machine.Null e formals rest passed formal single sight differ more =
      passes_by x e (Value (machine.Null ∷ [])) formals rest passed (λ own bare ws n is at. no_cell machine.Null ws n is at (λ q no. null_cell no)) (not_bundle x single) more

  by_value : (x : ℕ) (ws : List machine.Word) (e : TypedTree) (formals : List ℕ) (rest : TypedTree) (passed : List Passed)
      → (is_given s x ≡ true → is_bundle s x ≡ false → (z : machine.Word) × (ws ≡ z ∷ []) × ((n : ℕ) → z ≡ machine.Cell n → SeesBy e n))
      → (is_bundle s x ≡ true → SeesParts h sees seeing settled hands leaks m waits other facts v kept well holds alone live index_law own_law parts_named formals_low x e ws)
      → ((y : ℕ) → Has formals y → y ≡ x → ⊥) → Opens formals rest passed → Opens (x ∷ formals) (More e rest) (Value ws ∷ passed)
  by_value x ws e formals rest passed sight seen_parts differ more = by_kind (is_given s x) refl
    where
      by_bundle : is_given s x ≡ true → (b : Bool) → is_bundle s x ≡ b → Opens (x ∷ formals) (More e rest) (Value ws ∷ passed)
      by_bundle formal true bundle = opens_parts x ws e formals rest passed bundle (seen_parts bundle) differ more
      by_bundle formal false single =
          let found = sight formal single in
          subst (λ z. Opens (x ∷ formals) (More e rest) (Value z ∷ passed)) (sym found.1) (by_word x found.0 e formals rest passed formal single found.2 differ more)

      by_kind : (b : Bool) → is_given s x ≡ b → Opens (x ∷ formals) (More e rest) (Value ws ∷ passed)
      by_kind false none = passes_by x e (Value ws) formals rest passed (λ own bare us n is at. true_false (is_given s x) own none)
          (λ bundle us is. true_false (is_given s x) (bundle_given s x bundle) none) more
      by_kind true formal = by_bundle formal (is_bundle s x) refl

  one_opened : (x : ℕ) (how : Mode) (e : TypedTree) (a : Passed) (formals : List ℕ) (rest : TypedTree) (passed : List Passed)
      → IsGiven h sees seeing settled hands leaks m waits other facts v kept well holds alone live in_formals index_law own_law parts_named formals_low procedure x how e a
      → ((y : ℕ) → Has formals y → y ≡ x → ⊥) → Opens formals rest passed → Opens (x ∷ formals) (More e rest) (a ∷ passed)
  one_opened x mode.In e (Value ws) formals rest passed given differ more =
      by_value x ws e formals rest passed
      (λ formal single. (let found = given.1 (given_type s x formal) single in (found.0, found.1, λ n is. ((e, found.3 n is), refl)))) given.2 differ more
  one_opened x mode.Out e (To k) formals rest passed given differ more = passes_by x e (To k) formals rest passed (λ own bare ws n is at. absurd (false≢true (ap is_value_passed is))) (λ bundle ws is. false≢true (ap is_value_passed is)) more
  one_opened x mode.InOut e (From k) formals rest passed given differ more = passes_by x e (From k) formals rest passed (λ own bare ws n is at. absurd (false≢true (ap is_value_passed is))) (λ bundle ws is. false≢true (ap is_value_passed is)) more
  one_opened x how e a formals rest passed given differ more = absurd given

  pub all_opened : (formals : List ℕ) (actuals : TypedTree) (passed : List Passed) → AreDifferent formals → Given formals actuals passed → Opens formals actuals passed
  all_opened [] actuals passed differ given = no_opened [] actuals passed (λ y ws shown. shown)
  all_opened (x ∷ formals) (More e rest) (a ∷ passed) differ given =
      one_opened x (object_at s x).mode e a formals rest passed given.0 differ.0 (all_opened formals rest passed differ.1 given.1)
  all_opened (x ∷ formals) (More e rest) [] differ given = absurd given
  all_opened (x ∷ formals) actuals passed differ given =
      subst (Opens (x ∷ formals) actuals) (sym given) (no_opened (x ∷ formals) actuals [] (λ y ws shown. shown))

  -- ---- what holds of these views in the frame of what is called

  module _ (formals : List ℕ) (actuals : TypedTree) (passed : List Passed) (t : Views) (opened : AreOpened formals actuals passed t) where
    abbrev next : ℕ
    next = suc h.frame

    abbrev Next : ℕ → ℕ
    Next = home h.typing (suc h.frame)

    pub low_of : (y : ℕ) (w : Way) → t.way y ≡ Some w → IsLow h.typing h.frame w
    low_of y w has = (let found = opened.way y w has in subst (IsLow s h.frame) found.3 ((found.2).1).low)

    pub low_part : (y : ℕ) (p : List Step) (w : Way) → t.part_way y p ≡ Some w → IsLow h.typing h.frame w
    low_part y p w has = (let found = opened.parts y p w has in subst (IsLow s h.frame) found.is (found.part).low)

    pub opened_views : (view : View) (at_first : List Fact)
        → ((x y : ℕ) (w u : Way) → t.way x ≡ Some w → t.way y ≡ Some u → (y ≡ x → ⊥) → sees x ≡ false → Under w u ⊎ Under u w → ⊥)
        → ((y : ℕ) (w : Way) (n : ℕ) → t.way y ≡ Some w → Reaches (seen h.typing m hands leaks) w (OfCell n) → Reaches view w (OfCell n))
        → ((x : ℕ) → is_bundle h.typing x ≡ true → sees x ≡ true)
        → ((x : ℕ) (p : List Step) (w : Way) → t.part_way x p ≡ Some w → (y : ℕ) (u : Way) → t.way y ≡ Some u → sees y ≡ false → Under u w ⊎ Under w u → ⊥)
        → ((y : ℕ) (p : List Step) (w : Way) (n : ℕ) → t.part_way y p ≡ Some w → Reaches (seen h.typing m hands leaks) w (OfCell n) → Reaches view w (OfCell n))
        → AreViews Next sees t view at_first
    opened_views view at_first apart on sight parts_apart parts_on = (
      λ y w has. (let found = opened.way y w has in
          inr (record {
            begins = low_begins s h.frame w (low_of y w has);
            given = λ named. subst (Named Next) (opened.ups y) named;
            alone = λ plain x u there differs given meets. apart y x w u has there differs plain meets;
            reaches = on y w (t.cell y) has (subst (λ z. Reaches (seen s m hands leaks) z (OfCell (t.cell y))) found.3 ((found.2).1).reaches);
          })),
      λ y p w has. (let found = opened.parts y p w has in record {
        begins = low_begins s h.frame w (low_part y p w has);
        sees = sight y found.bundle;
        apart = λ x u there given plain meets. parts_apart y p w has x u there plain meets;
        reaches = parts_on y p w (t.part_cell y p) has (subst (λ z. Reaches (seen s m hands leaks) z (OfCell (t.part_cell y p))) found.is (found.part).reaches);
      }),
    )

    -- with the name of its actual
    pub opened_seen : (y : ℕ) (w : Way) → t.way y ≡ Some w → IsSeenFrom h.typing h.frame v (alias.passed formals actuals) y w
    opened_seen y w has =
        let found = opened.way y w has in
        let sight = (found.2).1 in
        let actual = named_written h sees seeing settled hands leaks m waits other facts v kept well holds alone live index_law own_law parts_named formals_low (found.2).0 sight.from sight.called in
        record {
          from = sight.from;
          named = sight.from_named;
          there = All sight.from;
          begins = inr (under_itself sight.from);
          leads = sym found.3 ∙ sight.leads;
          goes = sight.goes;
          actual = actual.0;
          of = actual_named formals actuals y (found.2).0 actual.0 found.4 actual.1;
          called = actual.2;
          given = found.0;
        }

    -- so it is of a part
    pub opened_part : (y : ℕ) (p : List Step) (w : Way) → t.part_way y p ≡ Some w → IsSeenFrom h.typing h.frame v (alias.passed formals actuals) y w
    opened_part y p w has =
        let found = opened.parts y p w has in
        let actual = named_written h sees seeing settled hands leaks m waits other facts v kept well holds alone live index_law own_law parts_named formals_low found.e found.from found.called in
        record {
          from = found.from;
          named = found.named;
          there = All (along found.from p);
          begins = inr (under_along found.from found.from p (under_itself found.from));
          leads = sym found.is ∙ (found.part).leads;
          goes = (found.part).goes;
          actual = actual.0;
          of = actual_named formals actuals y found.e actual.0 found.of actual.1;
          called = actual.2;
          given = bundle_given h.typing y found.bundle;
        }

    pub opened_from : (y : ℕ) (w : Way) → t.way y ≡ Some w → ((m : Written) → IsNameOf formals actuals y m → IsLentAs h.typing sees facts (alias.passed formals actuals) y m)
        → IsFrom h.typing sees h.frame v facts (alias.passed formals actuals) y w
    unfolding opened_seen
    opened_from y w has lent =
        let seen_there = opened_seen y w has in record {
          from = seen_there.from;
          named = seen_there.named;
          leads = seen_there.leads;
          actual = seen_there.actual;
          of = seen_there.of;
          called = seen_there.called;
          lent = lent seen_there.actual seen_there.of;
        }

    pub opened_whole : (gone : Way → Type 0) → ((z : Way) → gone z → ExcusedBy (home h.typing h.frame) v other facts z)
        → (y : ℕ) (w z : Way) → t.way y ≡ Some w → gone z → Under z w ⊎ Under w z → ⊥
    opened_whole gone excused y w z has away meets =
        let found = opened.way y w has in
        ((found.2).1).whole z (excused z away) (subst (λ q. Under z q ⊎ Under q z) (sym found.3) meets)

    pub opened_parts_whole : (gone : Way → Type 0) → ((z : Way) → gone z → ExcusedBy (home h.typing h.frame) v other facts z)
        → (y : ℕ) (p : List Step) (w z : Way) → t.part_way y p ≡ Some w → gone z → Under z w ⊎ Under w z → ⊥
    opened_parts_whole gone excused y p w z has away meets =
        let found = opened.parts y p w has in
        (found.part).whole z (excused z away) (subst (λ q. Under z q ⊎ Under q z) (sym found.is) meets)

    pub opened_parts_low : 0 < h.frame → ArePartsLow h.typing (suc h.frame) t
    opened_parts_low deep y p w has = elim (low_there s h.frame w deep (low_part y p w has)) [
      | inl far ↦ (inr far, λ at_home. absurd (not_elsewhere Next w at_home far.0))
      | inr home ↦ (inl home.0, λ at_home. home.1)
    ]

    pub opened_lies : 0 < h.frame → (y : ℕ) (w : Way) → t.way y ≡ Some w → Lies h.typing (suc h.frame) w
    opened_lies deep y w has = elim (low_there s h.frame w deep (low_of y w has)) [ inl far ↦ inr far | inr home ↦ inl home.0 ]

    pub opened_held : (n : Memory) → NoneAbove h.typing h.frame m → ((x : ℕ) → is_view h.typing x ≡ true → is_package_object h.typing x ≡ false)
        → ((g y : ℕ) → is_view h.typing y ≡ true → ((i : ℕ) → (get_or (variable_slots h.typing g y n.variables) i no_slot).word ≡ (get_or (variable_slots h.typing g y m.variables) i no_slot).word)
        ⊎ ((g ≡ suc h.frame) × (ws : List machine.Word) × IsShownTo formals passed y ws × HasWords h.typing g y n ws))
        → ((y : ℕ) → Has formals y → is_view h.typing y ≡ true → is_given h.typing y ≡ true)
        → (y k : ℕ) → is_view h.typing y ≡ true → is_bundle h.typing y ≡ false
        → (get_or (variable_slots h.typing (home h.typing (suc h.frame) y) y n.variables) 0 no_slot).word ≡ machine.Cell k
        → (w : Way) × (t.way y ≡ Some w) × (t.cell y ≡ k)
    opened_held n above local words formal y k view bare at =
        let up : Next y ≡ next = ap (λ b. if b then 0 else next) (local y view) in
        elim (words (Next y) y view) [
          | inl same ↦ absurd (above.0 (Next y) y k (omega (arith, up)) view (sym (same 0) ∙ at))
          | inr shown ↦ opened.held y k (formal y (shown_has formals passed y shown.1 shown.2) view) bare shown.1 shown.2 (sym (shown.3 0) ∙ at)
        ]

    pub opened_parts : (n : Memory) → NoneAbove h.typing h.frame m → ((x : ℕ) → is_view h.typing x ≡ true → is_package_object h.typing x ≡ false)
        → ((g y : ℕ) → is_view h.typing y ≡ true → ((i : ℕ) → (get_or (variable_slots h.typing g y n.variables) i no_slot).word ≡ (get_or (variable_slots h.typing g y m.variables) i no_slot).word)
        ⊎ ((g ≡ suc h.frame) × (ws : List machine.Word) × IsShownTo formals passed y ws × HasWords h.typing g y n ws))
        → ((x : ℕ) → is_bundle h.typing x ≡ true → sees x ≡ true) → PartsHold h.typing sees (suc h.frame) t n
    opened_parts n above local words sight = record {
      held = λ y p d c b k bundle there is at. (
          let view = bundle_view h.typing y bundle in
          let up : Next y ≡ next = ap (λ b. if b then 0 else next) (local y view) in
          by_either (words (Next y) y view)
          (λ same. (absurd (above.1 (Next y) y (offset_in s.table (object_at s y).of p) k (omega (arith, up)) bundle (sym (same (offset_in s.table (object_at s y).of p)) ∙ at))))
          (λ (up_there, ws, shown, has). (opened.part_held y p k bundle ws shown (record {
            d = d;
            c = c;
            n = b;
            there = there;
            access = is;
            word = sym (has (offset_in s.table (object_at s y).of p)) ∙ at;
          }))));
      only = λ y p w has. (opened.parts y p w has).bundle;
      owners = λ y p w has. (let found = opened.parts y p w has in subst (IsOwners s) found.is (found.part).owners);
      looks = sight;
    }

    formal_unheld : (y : ℕ) → is_given h.typing y ≡ true → is_held h.typing y ≡ false
    formal_unheld y given =
        plain_unheld s y (by_kind (object_at s y).kind (first_true (is_formal s y) (is_in (object_at s y).mode) (given_formal s y given)))
      where
        first_true : (a b : Bool) → a && b ≡ true → a ≡ true
        first_true true b e = refl
        first_true false b e = absurd (false≢true e)

        by_kind : (k : ObjectKind) → is_formal_kind k ≡ true → is_temporary k ≡ false
        by_kind object_kind.Formal is = refl
        by_kind k is = absurd (false≢true is)

    pub opened_placed : 0 < h.frame → (program : FlowProgram) (at_first : List Fact) (scope : List ℕ) → flow_typing program ≡ h.typing → ((y : ℕ) → Has formals y → is_given h.typing y ≡ true → is_within y scope ≡ true)
        → ArePlaced program (suc h.frame) at_first t scope
    opened_placed deep program at_first scope same within y w has =
        let found = opened.way y w has in
        record {
          within = within y found.1 found.0;
          plain = ap (λ z. is_held z y) same ∙ formal_unheld y found.0;
          up = λ named. absurd (subst (Named (home (flow_typing program) next)) (opened.ups y) named);
          root = λ named. elim (low_there s h.frame w deep (low_of y w has)) [
            | inl far ↦ absurd (not_elsewhere Next w (subst (λ z. Named (home z next) w) same named) far.0)
            | inr shared ↦ inl (ap (λ z. is_package_object z (number_of w)) same ∙ shared.1)
          ];
          holder = λ named sight. absurd (subst (Named (home (flow_typing program) next)) (opened.ups y) named);
        }

    -- in a traversal function the views are rooted in themselves, and the first one sees what the first actual designates
    pub opened_rooted : (acts : List Act) (f : ℕ) → AreRooted h.typing acts f (t.way f) t
    opened_rooted acts f y w has = (
      y,
      formal_root s acts f (t.way f) y (by_kind (object_at s y).kind (first_true (is_formal s y) (is_in (object_at s y).mode) (given_formal s y (opened.way y w has).0))),
      λ itself. (w, ap t.way (sym itself) ∙ has, under_itself w),
    )
      where
        first_true : (a b : Bool) → a && b ≡ true → a ≡ true
        first_true true b e = refl
        first_true false b e = absurd (false≢true e)

        by_kind : (k : ObjectKind) → is_formal_kind k ≡ true → is_variable k ≡ false
        by_kind object_kind.Formal is = refl
        by_kind k is = absurd (false≢true is)

    pub opened_first : (f : ℕ) (rest : List ℕ) (c : TraversalCall) → formals ≡ f ∷ rest → actuals ≡ More (Name c.name_pos c.root c.path c.of) c.others → AreDifferent (f ∷ rest)
        → (n : ℕ) (i : Instruction) → IsTakenBy i (call_in n c) → SeesFirst h.typing h.frame i n v (t.way f)
    opened_first f rest c formals_are actuals_are differ n i taken = by_way (t.way f) refl
      where
        nothing : (first : Option Way) → first ≡ None → SeesFirst h.typing h.frame i n v first
        nothing first none =
            let place = way_at (home h.typing h.frame) (traversed_name c) in record {
              traverses = record { call = c; taken = taken; place = place.0; named = place.1; called = place.2 };
              goes = λ w is. (let never : None ≡ Some w = sym none ∙ is in absurd (false≢true (ap is_some never)));
              leads = λ w is. (let never : None ≡ Some w = sym none ∙ is in absurd (false≢true (ap is_some never)));
            }

        is_first : (a : TypedTree) → IsActualOf formals actuals f a → a ≡ Name c.name_pos c.root c.path c.of
        is_first a of = by_either (subst (λ z. z) (λ j. IsActualOf (formals_are j) (actuals_are j) f a) of) (λ first. (sym first.1)) (λ later. (absurd (differ.0 f (actual_has rest c.others f a later) refl)))

        sees_so : (w : Way) → t.way f ≡ Some w → SeesFirst h.typing h.frame i n v (Some w)
        sees_so w has =
            let found = opened.way f w has in
            let sight = (found.2).1 in
            let called : ways.name_of sight.from ≡ traversed_name c =
            subst (λ a. IsCalledBy h sees seeing settled hands leaks m waits other facts v kept well holds alone live index_law own_law parts_named formals_low a sight.from) (is_first (found.2).0 found.4) sight.called in
            let root : ways.number_of sight.from ≡ c.root = ap (λ (z : PlaceName). z.root) called in record {
              traverses = record { call = c; taken = taken; place = sight.from; named = sight.from_named; called = called };
              goes = λ z is. subst (λ r. GoesBy h.typing v r (All sight.from)) root sight.goes;
              leads = λ z is. sym sight.leads ∙ found.3 ∙ same_ways w z is;
            }

        by_way : (o : Option Way) → t.way f ≡ o → SeesFirst h.typing h.frame i n v o
        by_way None is = nothing None refl
        by_way (Some w) is = sees_so w is
