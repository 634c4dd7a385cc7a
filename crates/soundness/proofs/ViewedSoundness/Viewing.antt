-- What a name has that is borrowed or observed, and that its value is stored in the variable of a
-- view.
use Rattle.std.proofs.Common.{◌≡◌, refl, sym, ap, ◌∙◌, subst, inl, inr, ℕ, ◌<◌, ◌==◌, eqb-true, eq-eqb, Bool, true, false, ◌&&◌, ◌||◌, ◌⊎◌, List, [], ◌∷◌, length, get_or, Option, Some, None}
use Rattle.std.proofs.lemmas.Bool.{false≢true}
use Rattle.std.specs.Prelude.{is_some}
use Rattle.machine.specs.place_names.declared.act.Act.TheVariants.{Borrow, Observe, Reborrow}
use Rattle.machine.specs.spark_base.Lists.{Has}
use Rattle.machine.specs.place_names.Names.{Name as PlaceName}
use Rattle.machine.specs.place_names.declared.fact.Fact.{Fact}
use Rattle.machine.specs.place_names.declared.fact.Fact.TheVariants.{Moved}
use Rattle.machine.specs.place_names.Facts.{effect}
use Rattle.machine.specs.type_definitions.declared.table.Shape.{Shape}
use Rattle.machine.specs.type_definitions.declared.table.Shape.TheVariants as shape
use Rattle.machine.specs.type_definitions.Types.{Table, shape_of, words, full, view_of as view_of_shape}
use Rattle.machine.specs.flow_paths.Objects.{Typing, object_at, is_anonymous, is_observer, view_of}
use Rattle.machine.specs.Words as machine
use Rattle.machine.specs.Memory.{Slot, Memory, Place, fresh, no_slot, slots_at, variable_slots, declared}
use Rattle.machine.specs.Evaluate.{Here}
use Rattle.machine.specs.States.{Waiting, Leak}
use Rattle.soundness.specs.OwnedWays.Ways.{Step, OfVariable, OfHand, Loc, OfRoot, OfCell, Inside, Way, Object, Lost, Into, All, View, Reaches, Named, IsSame, Allows, name_of, number_of}
use Rattle.soundness.specs.PartOffsets.Parts.{has_part, is_leaf, owns_one, type_in, offset_in, IsSettled}
use Rattle.soundness.specs.Seen.{content, word_in, trunk, steps_in, seen, home, is_view_formal}
use Rattle.soundness.specs.Typed.{IsCell, Points, Kept, Spot}
use Rattle.soundness.proofs.Contents.{word_no}
use Rattle.soundness.proofs.Joined.{trunk_trunk, not_inside}
use Rattle.soundness.proofs.Memories.{put_same, put_other}
use Rattle.soundness.proofs.Steps.{plain_end}
use Rattle.soundness.specs.OwnedLoans.Views.{Go, on, Around, Views, expand_root, expand_part, expand, ExcusedBy, Viewed, Becomes, Unused, AreClear, Lifted, InPart}
use Rattle.soundness.proofs.OwnedLoans.Ways.{on_named, HasNoPart, part_none, next_of, named_on}
use Rattle.soundness.proofs.OwnedLoans.Allowed.{LoansStay}
use Rattle.soundness.proofs.OwnedLoans.Taken.{rebound, borrowed, observed, seen_again, seen_part, reborrowed, Leaves}
use Rattle.soundness.proofs.OwnedWays.Locations.{same_loc}
use Rattle.soundness.proofs.OwnedLoans.Moves.{IsPlace, reached, same_viewed}
use Rattle.soundness.specs.ViewedSoundness.Holds.{is_view, is_bundle, part_word, IsOwners, Holds, is_given}
use Rattle.soundness.proofs.ViewedSoundness.Walks.{held_there}
use Rattle.soundness.proofs.ViewedSoundness.Names.{stands_owners, part_owners}
use Rattle.soundness.proofs.ViewedSoundness.ViewKinds.{true_false, anonymous_bundle, view_access}
use Rattle.soundness.proofs.Constructors.{is_cell_word}
use Rattle.soundness.proofs.Parted.{loc_frames, loc_objects, word_cells, by_either}

-- ---- the way of what a name designates

pub expand_down : (v : Views) (u : Way) → IsPlace v u → HasNoPart v u → expand v (All u) ≡ All (expand v u)
expand_down v (Object r) place none = ap (λ o. expand_root o r) (place r refl)
expand_down v (Lost n) place none = refl
expand_down v (Into w i) place none = ap (λ z. expand_part z (expand v (Into w i))) (part_none v (Into w i) none)
expand_down v (All w) place none = refl

-- The way that a view gets from a word, and the number of its cell.
abbrev pub way_from : machine.Word → Way → Option Way
way_from (machine.Cell n) w = Some w
way_from z w = None

abbrev pub number_in : machine.Word → ℕ
number_in (machine.Cell n) = n
number_in z = 0

-- The cell of a word is reached by what a name stands for; by what a name designates.
abbrev pub IsReached : Views → View → Way → machine.Word → Type 0
IsReached v s k z = (n : ℕ) → z ≡ machine.Cell n → Reaches s (expand v k) (OfCell n)

abbrev pub IsDesignated : Views → View → Way → machine.Word → Type 0
IsDesignated v s u z = IsReached v s (All u) z

same_some : (a b : Way) → Some a ≡ Some b → a ≡ b
same_some a b e = cc

pub reached_by : (v : Views) (s : View) (k : Way) (z : machine.Word) → IsReached v s k z
    → (w : Way) → way_from z (expand v k) ≡ Some w → (w ≡ expand v k) × Reaches s w (OfCell (number_in z))
reached_by v s k (machine.Cell n) is w e =
    let same = same_some (expand v k) w e in (sym same, subst (λ q. Reaches s q (OfCell n)) same (is n refl))
reached_by v s k (machine.Int n) is w e = absurd (false≢true (ap is_some e))
reached_by v s k (machine.Enumerated n) is w e = absurd (false≢true (ap is_some e))
reached_by v s k machine.Null is w e = absurd (false≢true (ap is_some e))

-- ---- names that have the number of a cell

module _ (h : Here) (sees : ℕ → Bool) (settled : IsSettled h.typing.table) (hands : List Waiting) (leaks : List Leak) (m : Memory) (waits : List (List machine.Word))
    (other : Around (home h.typing h.frame)) (facts : List Fact) (v : Views) (kept : Kept h.typing m hands)
    (viewed : Viewed (home h.typing h.frame) sees other v (seen h.typing m hands leaks) facts) (holds : Holds h.typing sees h.frame v m)
    (live : (w : Way) (l : Loc) → IsOwners h.typing w → Reaches (seen h.typing m hands leaks) w l → (content h.typing m hands (trunk l)).owns ≡ true) where
  abbrev view_here : View
  view_here = seen h.typing m hands leaks

  -- a name of a named access type that wasn't moved
  pub owner_designates : (u : Way) (k : Place) (l : Loc) (d : ℕ) (c : Bool) → Spot h.typing m hands k l → IsOwners h.typing (expand v u)
      → Reaches view_here (expand v u) l → IsPlace v u → HasNoPart v u → shape_of h.typing.table k.of ≡ shape.Access d c true
      → (ExcusedBy (home h.typing h.frame) v other facts (expand v u) → ⊥)
      → IsDesignated v view_here u (get_or (slots_at h.typing m k.base) k.at no_slot).word
  owner_designates u k l d c spot rooted reaches place none is clean n e =
      subst (λ z. Reaches view_here z (OfCell n)) (sym (expand_down v u place none)) (
        l,
        n,
        reaches,
        held_there h.typing settled hands leaks m waits (ExcusedBy (home h.typing h.frame) v other facts) kept viewed.owned viewed.known live k l (expand v u) d c n
            spot rooted reaches is e clean,
        refl,
      )

  -- a view itself
  pub view_designates : (x : ℕ) → is_view h.typing x ≡ true → is_bundle h.typing x ≡ false
      → IsDesignated v view_here (Object (OfVariable (home h.typing h.frame x) x)) (get_or (variable_slots h.typing (home h.typing h.frame x) x m.variables) 0 no_slot).word
  view_designates x view bare n e =
      let own = holds.held x n view bare e in
      let is : expand v (All (Object (OfVariable (home h.typing h.frame x) x))) ≡ own.0 = ap (λ o. expand_root o (OfVariable (home h.typing h.frame x) x)) own.1 in
      subst (λ z. Reaches view_here z (OfCell n)) (sym is)
      (subst (λ z. Reaches view_here own.0 (OfCell z)) own.2 (reached (home h.typing h.frame) sees other v view_here facts x own.0 (viewed.views.0 x own.0 own.1)))

-- ---- the variable of a view

-- nothing in a view owns
pub view_leaf : (table : Table) (settled : IsSettled table) (t : ℕ) → is_anonymous (full table t) ≡ true → (p : List Step) → is_leaf table t p ≡ false
view_leaf table settled t view p = by_part (has_part table t p) refl
  where
    unowned : (sh : Shape) → is_anonymous (view_of_shape sh) ≡ true → owns_one sh ≡ false
    unowned (shape.Access d c true) e = absurd (false≢true e)
    unowned (shape.Access d c false) e = refl
    unowned (shape.Whole a b) e = refl
    unowned (shape.Listed l a b) e = refl
    unowned (shape.Fields cs) e = refl
    unowned (shape.Elements a b el) e = refl
    unowned (shape.Same of) e = refl

    by_part : (b : Bool) → has_part table t p ≡ b → has_part table t p && owns_one (shape_of table (type_in table t p)) ≡ false
    by_part false e = ap (λ z. z && owns_one (shape_of table (type_in table t p))) e
    by_part true e =
        let plain = view_access (shape_of table t) view in
        let none = plain_end table settled t plain.0 plain.1 p e in
        ap (λ z. z && owns_one (shape_of table (type_in table t p))) e
        ∙ ap (λ z. owns_one (shape_of table (type_in table t z))) none ∙ unowned (shape_of table t) view

objects_same : (f x g y : ℕ) → OfVariable f x ≡ OfVariable g y → y ≡ x
objects_same f x g y e = cc

module _ (s : Typing) (sees : ℕ → Bool) (settled : IsSettled s.table) where
  -- owners don't see a view
  pub view_unseen : (m : Memory) (hands : List Waiting) (leaks : List Leak) (f x : ℕ) (ws : List machine.Word) → is_anonymous (view_of s x) ≡ true
      → IsSame (seen s m hands leaks) (seen s (declared f x ws m) hands leaks)
  view_unseen m hands leaks f x ws view = record {
    word = λ l. by_trunk (trunk l) (steps_in l) (trunk_trunk l);
    made = refl;
    freed = λ n. refl;
    leaked = λ n. refl;
  }
    where
      by_trunk : (l : Loc) (p : List Step) → trunk l ≡ l → word_in s.table (content s (declared f x ws m) hands l) p ≡ word_in s.table (content s m hands l) p
      by_trunk (OfRoot (OfVariable g y)) p t = by_object (y == x) refl
        where
          by_object : (b : Bool) → (y == x) ≡ b
              → word_in s.table (content s (declared f x ws m) hands (OfRoot (OfVariable g y))) p ≡ word_in s.table (content s m hands (OfRoot (OfVariable g y))) p
          by_object true e =
              let leaf = view_leaf s.table settled (object_at s y).of (ap (λ z. is_anonymous (view_of s z)) (eqb-true y x e) ∙ view) p in
              word_no s.table (content s (declared f x ws m) hands (OfRoot (OfVariable g y))) p leaf
              ∙ sym (word_no s.table (content s m hands (OfRoot (OfVariable g y))) p leaf)
          by_object false e =
              ap (λ z. word_in s.table (record { of = (object_at s y).of; slots = z; owns = (content s m hands (OfRoot (OfVariable g y))).owns }) p)
              (put_other s f x g y (λ same. false≢true (sym e ∙ eq-eqb y x (objects_same f x g y same))) (fresh ws) m.variables)
      by_trunk (OfRoot (OfHand h)) p t = refl
      by_trunk (OfCell c) p t = refl
      by_trunk (Inside l i) p t = absurd (not_inside l l i t)

  -- the variables of views, where one of them gets a word
  pub holds_declared : (frame : ℕ) (v t : Views) (m : Memory) (x : ℕ) (z : machine.Word) (w loan up : Way) → home s frame x ≡ frame
      → is_view s x ≡ true → is_bundle s x ≡ false → Becomes v t x (way_from z w) loan up (number_in z) → ((q : Way) → way_from z w ≡ Some q → IsOwners s q)
      → ((q : Way) → way_from z w ≡ Some q → sees x ≡ false → Named (home s frame) up)
      → ((q : Way) → way_from z w ≡ Some q → Named (home s frame) up → is_observer s x ≡ false → sees x ≡ false) → Holds s sees frame v m
      → Holds s sees frame t (declared frame x (z ∷ []) m)
  holds_declared frame v t m x z w loan up mine view plain becomes owned from_names changes holds = record {
    held = λ y n is bare e. by_object y n is bare e (y == x) refl;
    only = λ y way e. only y way e (y == x) refl;
    owners = λ y way e. owners y way e (y == x) refl;
    access = holds.access;
    own = λ y way e sight none. own y way e sight none (y == x) refl;
    taken = λ y way e named borrows. taken y way e named borrows (y == x) refl;
    parts = record {
      held = λ y p d c b k bundle there is e. (
          let old = holds.parts.held y p d c b k bundle there is (sym (part_stays y p bundle) ∙ e) in
          (old.0, becomes.part_ways y p ∙ old.1, becomes.part_cells y p ∙ old.2));
      only = λ y p w e. holds.parts.only y p w (sym (becomes.part_ways y p) ∙ e);
      owners = λ y p w e. holds.parts.owners y p w (sym (becomes.part_ways y p) ∙ e);
      looks = holds.parts.looks;
    };
  }
    where
      got : (z : machine.Word) (n : ℕ) → z ≡ machine.Cell n → (way_from z w ≡ Some w) × (number_in z ≡ n)
      got (machine.Cell k) n e = (refl, word_cells e)
      got (machine.Int k) n e = absurd (false≢true (ap is_cell_word e))
      got (machine.Enumerated k) n e = absurd (false≢true (ap is_cell_word e))
      got machine.Null n e = absurd (false≢true (ap is_cell_word e))

      here : (y n : ℕ) → y ≡ x → (get_or (variable_slots s (home s frame y) y (declared frame x (z ∷ []) m).variables) 0 no_slot).word ≡ machine.Cell n → z ≡ machine.Cell n
      here y n same e =
          sym (ap (λ q. (get_or q 0 no_slot).word) (put_same s frame x (fresh (z ∷ [])) m.variables))
          ∙ ap (λ f. (get_or (variable_slots s f x (declared frame x (z ∷ []) m).variables) 0 no_slot).word) (sym mine)
          ∙ ap (λ q. (get_or (variable_slots s (home s frame q) q (declared frame x (z ∷ []) m).variables) 0 no_slot).word) (sym same)
          ∙ e

      off : (y : ℕ) → (y == x) ≡ false → y ≡ x → ⊥
      off y e same = false≢true (sym e ∙ eq-eqb y x same)

      -- a formal with parts isn't the object
      part_stays : (y : ℕ) (p : List Step) → is_bundle s y ≡ true → part_word s frame (declared frame x (z ∷ []) m) y p ≡ part_word s frame m y p
      part_stays y p bundle = by_same (y == x) refl
        where
          by_same : (b : Bool) → (y == x) ≡ b → part_word s frame (declared frame x (z ∷ []) m) y p ≡ part_word s frame m y p
          by_same true e = absurd (true_false (is_bundle s x) (ap (is_bundle s) (sym (eqb-true y x e)) ∙ bundle) plain)
          by_same false e =
              ap (λ q. (get_or q (offset_in s.table (object_at s y).of p) no_slot).word)
              (put_other s frame x (home s frame y) y (λ same. off y e (objects_same frame x (home s frame y) y same)) (fresh (z ∷ [])) m.variables)

      by_object : (y n : ℕ) → is_view s y ≡ true → is_bundle s y ≡ false
          → (get_or (variable_slots s (home s frame y) y (declared frame x (z ∷ []) m).variables) 0 no_slot).word ≡ machine.Cell n
          → (b : Bool) → (y == x) ≡ b → (k : Way) × (t.way y ≡ Some k) × (t.cell y ≡ n)
      by_object y n is bare e true b =
          let same = eqb-true y x b in
          let own = got z n (here y n same e) in
          (w, ap t.way same ∙ becomes.way_is ∙ own.0, ap t.cell same ∙ becomes.cell_is ∙ own.1)
      by_object y n is bare e false b =
          let old = holds.held y n is bare
          (sym (ap (λ q. (get_or q 0 no_slot).word)
          (put_other s frame x (home s frame y) y (λ same. off y b (objects_same frame x (home s frame y) y same)) (fresh (z ∷ [])) m.variables)) ∙ e) in
          (old.0, becomes.ways y (off y b) ∙ old.1, becomes.cells y (off y b) ∙ old.2)

      only : (y : ℕ) (way : Way) → t.way y ≡ Some way → (b : Bool) → (y == x) ≡ b → is_view s y ≡ true
      only y way e true b = ap (is_view s) (eqb-true y x b) ∙ view
      only y way e false b = holds.only y way (sym (becomes.ways y (off y b)) ∙ e)

      own : (y : ℕ) (way : Way) → t.way y ≡ Some way → sees y ≡ false → is_given s y ≡ false → (b : Bool) → (y == x) ≡ b → Named (home s frame) (t.up y)
      own y way e sight none true b =
          let same = eqb-true y x b in
          subst (Named (home s frame)) (sym (ap t.up same ∙ becomes.up_is))
          (from_names way (sym becomes.way_is ∙ ap t.way (sym same) ∙ e) (ap sees (sym same) ∙ sight))
      own y way e sight none false b =
          subst (Named (home s frame)) (sym (becomes.ups y (off y b))) (holds.own y way (sym (becomes.ways y (off y b)) ∙ e) sight none)

      taken : (y : ℕ) (way : Way) → t.way y ≡ Some way → Named (home s frame) (t.up y) → is_observer s y ≡ false → (b : Bool) → (y == x) ≡ b → sees y ≡ false
      taken y way e named borrows true b =
          let same = eqb-true y x b in
          ap sees same
          ∙ changes way (sym becomes.way_is ∙ ap t.way (sym same) ∙ e) (subst (Named (home s frame)) (ap t.up same ∙ becomes.up_is) named) (ap (is_observer s) (sym same) ∙ borrows)
      taken y way e named borrows false b =
          holds.taken y way (sym (becomes.ways y (off y b)) ∙ e) (subst (Named (home s frame)) (becomes.ups y (off y b)) named) borrows

      owners : (y : ℕ) (way : Way) → t.way y ≡ Some way → (b : Bool) → (y == x) ≡ b → IsOwners s way
      owners y way e true b = owned way (sym becomes.way_is ∙ ap t.way (sym (eqb-true y x b)) ∙ e)
      owners y way e false b = holds.owners y way (sym (becomes.ways y (off y b)) ∙ e)

  -- ---- words stay typed

  -- What a view gets designates a cell of its type.
  abbrev pub IsOfType : Memory → ℕ → machine.Word → Type 0
  IsOfType m x z = (d : ℕ) (c n : Bool) (k : ℕ) → shape_of s.table (object_at s x).of ≡ shape.Access d c n → z ≡ machine.Cell k → IsCell s m d k

  pub view_kept : (m : Memory) (hands : List Waiting) (f x : ℕ) (z : machine.Word) → is_anonymous (view_of s x) ≡ true
      → words s.table (object_at s x).of ≡ 1 → IsOfType m x z → Kept s m hands → Kept s (declared f x (z ∷ []) m) hands
  view_kept m hands f x z view one typed kept = record {
    variables = λ g y. by_either (same_loc (OfRoot (OfVariable g y)) (OfRoot (OfVariable f x)))
        (λ e. (
        let a : g ≡ f = loc_frames e in let b : y ≡ x = loc_objects e in
        ap (λ q. length (variable_slots s q y (declared f x (z ∷ []) m).variables)) a
        ∙ ap (λ q. length (variable_slots s f q (declared f x (z ∷ []) m).variables)) b
        ∙ ap (λ (q : List Slot). length q) (put_same s f x (fresh (z ∷ [])) m.variables)
        ∙ sym one ∙ ap (λ q. words s.table (object_at s q).of) (sym b)))
        (λ ne. (ap (λ (q : List Slot). length q) (put_other s f x g y (λ e. ne (ap OfRoot (sym e))) (fresh (z ∷ [])) m.variables) ∙ kept.variables g y));
    cells = kept.cells;
    points = λ l. points l;
  }
    where
      points : (l : Loc) → Points s (declared f x (z ∷ []) m) (content s (declared f x (z ∷ []) m) hands l)
      points (OfRoot (OfVariable g y)) = by_either (same_loc (OfRoot (OfVariable g y)) (OfRoot (OfVariable f x)))
          (λ e. (
          let a : g ≡ f = loc_frames e in let b : y ≡ x = loc_objects e in
          subst (λ q. Points s m (content s (declared f x (z ∷ []) m) hands (OfRoot (OfVariable q y)))) (sym a)
          (subst (λ q. Points s m (content s (declared f x (z ∷ []) m) hands (OfRoot (OfVariable f q)))) (sym b)
          (subst (λ q. Points s m (record { of = (object_at s x).of; slots = q; owns = (content s m hands (OfRoot (OfVariable f x))).owns }))
          (sym (put_same s f x (fresh (z ∷ [])) m.variables)) own))))
          (λ ne. (subst (λ q. Points s m (record { of = (object_at s y).of; slots = q; owns = (content s m hands (OfRoot (OfVariable g y))).owns }))
          (sym (put_other s f x g y (λ e. ne (ap OfRoot (sym e))) (fresh (z ∷ [])) m.variables)) (kept.points (OfRoot (OfVariable g y)))))
        where
          own : Points s m (record { of = (object_at s x).of; slots = fresh (z ∷ []); owns = (content s m hands (OfRoot (OfVariable f x))).owns })
          own p d c n k there is e =
              let plain = view_access (shape_of s.table (object_at s x).of) view in
              let none = plain_end s.table settled (object_at s x).of plain.0 plain.1 p there in
              typed d c n k (ap (λ q. shape_of s.table (type_in s.table (object_at s x).of q)) (sym none) ∙ is)
              (ap (λ q. (get_or (fresh (z ∷ [])) (offset_in s.table (object_at s x).of q) no_slot).word) (sym none) ∙ e)
      points (OfRoot (OfHand h)) = kept.points (OfRoot (OfHand h))
      points (OfCell c) = kept.points (OfCell c)
      points (Inside l i) = points l

-- ---- a borrower or observer is declared, or an observer gets another value

word_way : (z : machine.Word) (w q : Way) → way_from z w ≡ Some q → ((n : ℕ) × (z ≡ machine.Cell n)) × (w ≡ q)
word_way (machine.Cell n) w q e = ((n, refl), cc)
word_way (machine.Int k) w q e = absurd (false≢true (ap is_some e))
word_way (machine.Enumerated k) w q e = absurd (false≢true (ap is_some e))
word_way machine.Null w q e = absurd (false≢true (ap is_some e))

of_word : (z : machine.Word) (w q : Way) → way_from z w ≡ Some q → w ≡ q
of_word (machine.Cell n) w q e = cc
of_word (machine.Int k) w q e = absurd (false≢true (ap is_some e))
of_word (machine.Enumerated k) w q e = absurd (false≢true (ap is_some e))
of_word machine.Null w q e = absurd (false≢true (ap is_some e))

module _ (s : Typing) (sees : ℕ → Bool) (settled : IsSettled s.table) (frame : ℕ) (other : Around (home s frame)) (v t : Views) (m : Memory) (hands : List Waiting) (leaks : List Leak)
    (facts : List Fact) (viewed : Viewed (home s frame) sees other v (seen s m hands leaks) facts) (kept : Kept s m hands)
    (holds : Holds s sees frame v m) (x : ℕ) (z : machine.Word) (mine : home s frame x ≡ frame) (view : is_anonymous (view_of s x) ≡ true)
    (one : words s.table (object_at s x).of ≡ 1) (typed : IsOfType s sees settled m x z) where
  -- The state afterwards, with the variable of the view.
  pub record Became (facts' : List Fact) : Type 0 where
    pub sound : Viewed (home s frame) sees other t (seen s (declared frame x (z ∷ []) m) hands leaks) facts'
    pub words_kept : Kept s (declared frame x (z ∷ []) m) hands
    pub views_held : Holds s sees frame t (declared frame x (z ∷ []) m)

  became : (facts' : List Fact) (w loan up : Way) → Becomes v t x (way_from z w) loan up (number_in z)
      → ((q : Way) → way_from z w ≡ Some q → IsOwners s q) → ((q : Way) → way_from z w ≡ Some q → sees x ≡ false → Named (home s frame) up)
      → ((q : Way) → way_from z w ≡ Some q → Named (home s frame) up → is_observer s x ≡ false → sees x ≡ false)
      → Viewed (home s frame) sees other t (seen s m hands leaks) facts' → Became facts'
  became facts' w loan up becomes owned taken changes sound = record {
    sound = same_viewed (home s frame) sees other t (seen s m hands leaks) (seen s (declared frame x (z ∷ []) m) hands leaks) facts'
        (view_unseen s sees settled m hands leaks frame x (z ∷ []) view) sound;
    words_kept = view_kept s sees settled m hands frame x z view one typed kept;
    views_held = holds_declared s sees settled frame v t m x z w loan up mine (ap (λ b. b || is_view_formal s x) view) (anonymous_bundle s x view) becomes owned taken changes holds;
  }

  -- the way that a view gets begins at an owner
  owned_way : (k : Way) → Named (home s frame) k → (is_view_formal s (number_of k) ≡ true → (n : ℕ) → z ≡ machine.Cell n → Lifted v k)
      → (q : Way) → way_from z (expand v k) ≡ Some q → IsOwners s q
  owned_way k named lifts q e =
      let word = word_way z (expand v k) q e in
      subst (IsOwners s) word.1 (stands_owners s sees frame v m k holds named (by_kind (is_view_formal s (number_of k)) refl word.0.0 word.0.1))
    where
      by_kind : (b : Bool) → is_view_formal s (number_of k) ≡ b → (n : ℕ) → z ≡ machine.Cell n → (is_view_formal s (number_of k) ≡ false) ⊎ Lifted v k
      by_kind false is n e = inl is
      by_kind true is n e = inr (lifts is n e)

  -- What a name through a formal designates goes by the way of the formal.
  abbrev pub IsFound : Way → Type 0
  IsFound k = is_view_formal s (number_of k) ≡ true → (n : ℕ) → z ≡ machine.Cell n → Lifted v k

  pub borrower_declared : (u : Way) (r : List Go) → Becomes v t x (way_from z (expand v (on (All u) r))) u (on (All u) r) (number_in z)
      → Unused (home s frame) other.lent v facts x → sees x ≡ false → IsFound (on (All u) r)
      → Named (home s frame) u → sees (number_of u) ≡ false → number_of u < x → IsReached v (seen s m hands leaks) (on (All u) r) z
      → Allows facts (Borrow x (name_of u)) → Became (effect (Borrow x (name_of u)) facts)
  borrower_declared u r becomes unused borrows found named plain older is allowed =
      became (effect (Borrow x (name_of u)) facts) (expand v (on (All u) r)) u (on (All u) r) becomes
      (owned_way (on (All u) r) (named_on (home s frame) (All u) r named) found) (λ q e sight. named_on (home s frame) (All u) r named) (λ q e at_home borrower. borrows)
      (borrowed (home s frame) sees other v t (seen s m hands leaks) facts viewed x (way_from z (expand v (on (All u) r))) u r (number_in z) becomes unused borrows
      named plain older (reached_by v (seen s m hands leaks) (on (All u) r) z is) allowed)

  pub observer_stored : (u : Way) (r : List Go) → Becomes v t x (way_from z (expand v (on (All u) r))) u (on (All u) r) (number_in z) → sees x ≡ true → is_observer s x ≡ true → IsFound (on (All u) r)
      → Named (home s frame) u → sees (number_of u) ≡ false → IsReached v (seen s m hands leaks) (on (All u) r) z
      → Allows facts (Observe x (name_of u) false) → Became (effect (Observe x (name_of u) false) facts)
  observer_stored u r becomes observes observer found named plain is allowed =
      became (effect (Observe x (name_of u) false) facts) (expand v (on (All u) r)) u (on (All u) r) becomes
      (owned_way (on (All u) r) (named_on (home s frame) (All u) r named) found) (λ q e sight. absurd (true_false (sees x) observes sight)) (λ q e at_home borrows. absurd (true_false (is_observer s x) observer borrows))
      (observed (home s frame) sees other v t (seen s m hands leaks) facts viewed x (way_from z (expand v (on (All u) r))) u r (number_in z) becomes observes
      named plain (reached_by v (seen s m hands leaks) (on (All u) r) z is) allowed)

  -- what only sees gets what a part of a formal designates
  pub part_seen : (k : Way) (l : InPart v k) → Becomes v t x (way_from z (expand v k)) (Lost 0) (Lost 0) (number_in z)
      → sees x ≡ true → IsReached v (seen s m hands leaks) k z → (after_it : List Fact) → Leaves sees facts after_it → Became after_it
  part_seen k l becomes looks is after_it leaves =
      became after_it (expand v k) (Lost 0) (Lost 0) becomes
      (λ q e. subst (IsOwners s) (of_word z (expand v k) q e) (part_owners s sees frame v m k holds l)) (λ q e no. absurd (true_false (sees x) looks no)) (λ q e lost. absurd lost)
      (seen_part (home s frame) sees other v t (seen s m hands leaks) facts viewed x (way_from z (expand v k)) k (number_in z) l becomes looks
      (reached_by v (seen s m hands leaks) k z is) after_it leaves)

  -- or what another object sees
  pub view_again : (k : Way) (l : Lifted v k) → sees l.object ≡ true → (is_observer s x ≡ false → is_observer s l.object ≡ false)
      → Becomes v t x (way_from z (expand v k)) (v.loan l.object) (next_of v k l) (number_in z) → sees x ≡ true
      → Named (home s frame) k → IsReached v (seen s m hands leaks) k z → (after_it : List Fact) → Leaves sees facts after_it → Became after_it
  view_again k l sight alike becomes looks named is after_it leaves =
      became after_it (expand v k) (v.loan l.object) (next_of v k l) becomes (owned_way k named (λ f n e. l)) (λ q e no. absurd (true_false (sees x) looks no))
      (λ q e at_home borrows. absurd (true_false (sees l.object) sight (holds.taken l.object l.way l.has (on_named (home s frame) (v.up l.object) l.rest at_home) (alike borrows))))
      (seen_again (home s frame) sees other v t (seen s m hands leaks) facts viewed x (way_from z (expand v k)) k (number_in z) l sight becomes looks
      named (reached_by v (seen s m hands leaks) k z is) after_it leaves)

  pub borrower_stored : (name : PlaceName) (k : Way) (l : Lifted v k) → l.object ≡ x
      → Becomes v t x (way_from z (expand v k)) (v.loan l.object) (next_of v k l) (number_in z) → sees x ≡ false → is_given s x ≡ false
      → Named (home s frame) k → IsReached v (seen s m hands leaks) k z → Allows facts (Reborrow x name)
      → Became (effect (Reborrow x name) facts)
  borrower_stored name k l same becomes borrows own named is allowed =
      let up : Named (home s frame) (v.up l.object) = holds.own l.object l.way l.has (ap sees same ∙ borrows) (ap (is_given s) same ∙ own) in
      became (effect (Reborrow x name) facts) (expand v k) (v.loan l.object) (next_of v k l) becomes (owned_way k named (λ f n e. l)) (λ q e sight. named_on (home s frame) (v.up l.object) l.rest up) (λ q e at_home borrower. borrows)
      (reborrowed (home s frame) sees other v t (seen s m hands leaks) facts viewed x (way_from z (expand v k)) name k (number_in z) l same becomes borrows up
      named (reached_by v (seen s m hands leaks) k z is) allowed)

  -- a view that becomes null
  pub view_emptied : (facts' : List Fact) (w loan up : Way) → Becomes v t x (way_from z w) loan up (number_in z) → ((k : ℕ) → z ≡ machine.Cell k → ⊥)
      → Unused (home s frame) other.lent v facts x → ((n : PlaceName) → Has facts (Moved n) → Has facts' (Moved n))
      → LoansStay facts facts' → AreClear sees facts' → Became facts'
  view_emptied facts' w loan up becomes null unused stays loans clear =
      became facts' w loan up becomes (λ q e. absurd (no_way z q e null)) (λ q e sight. absurd (no_way z q e null)) (λ q e at_home borrower. absurd (no_way z q e null))
      (rebound (home s frame) sees other v t x (way_from z w) loan up (number_in z) becomes (seen s m hands leaks) facts facts' viewed unused stays loans clear
      (λ y e. absurd (no_way z y e null)))
    where
      no_way : (z : machine.Word) (y : Way) → way_from z w ≡ Some y → ((k : ℕ) → z ≡ machine.Cell k → ⊥) → ⊥
      no_way (machine.Cell k) y e null = null k refl
      no_way (machine.Int k) y e null = false≢true (ap is_some e)
      no_way (machine.Enumerated k) y e null = false≢true (ap is_some e)
      no_way machine.Null y e null = false≢true (ap is_some e)
