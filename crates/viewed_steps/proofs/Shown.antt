-- A formal that owns nothing gets its value: owners see what they saw, and the variables of other views
-- stay.
use Rattle.std.proofs.Common.{◌≡◌, refl, sym, ap, ◌∙◌, subst, ◌⊎◌, inl, inr, ℕ, zero, suc, arith, ◌+◌, true, false, not, List, [], ◌∷◌, ◌++◌, take, drop, length, get_or, Bool}
use Rattle.machine.specs.type_definitions.Types.{shape_of, components_of, words, words_of as shape_words}
use Rattle.machine.specs.flow_paths.Objects.{Typing, object_at}
use Rattle.machine.specs.Words.{access_offsets}
use Rattle.machine.specs.Words as machine
use Rattle.machine.specs.Memory.{Slot, Memory, Base, Place, HeapCell, fresh, cell, no_cell, no_slot, variable_slots, slots_at, slots_of, at_number, gone_at, put, with_slots, words_of, moved_out, declared}
use Rattle.machine.specs.Memory as memory
use Rattle.machine.specs.Calls.{Passed, Value, From, To, with_formal}
use Rattle.machine.specs.States.{Waiting, Leak}
use Rattle.soundness.specs.OwnedWays.Ways.{Step, OfVariable, OfHand, Loc, OfRoot, OfCell, Inside, IsSame}
use Rattle.soundness.proofs.OwnedWays.Locations.{same_loc}
use Rattle.soundness.specs.PartOffsets.Parts.{type_in, offset_in, is_leaf, IsSettled}
use Rattle.soundness.specs.Seen.{content, trunk, steps_in, word_in, seen, is_view_formal}
use Rattle.soundness.specs.Typed.{Matches, IsCell, Points, OwnsByShape, Kept}
use Rattle.soundness.proofs.Contents.{word_dead, word_no}
use Rattle.soundness.proofs.Keeping.{kept_with}
use Rattle.soundness.proofs.Lasting.{declared_kept, keeps}
use Rattle.soundness.proofs.Memories.{put_other, put_same, at_length}
use Rattle.soundness.proofs.Steps.{plain_end}
use Rattle.soundness.specs.ViewedSoundness.Holds.{is_bundle, is_view, is_given, IsAccess}
use Rattle.soundness.proofs.ViewedSoundness.ViewKinds.{bundle_formal, given_view}
use Rattle.viewed_steps.specs.Taken.{Lodge}
use Rattle.viewed_steps.proofs.Alike.{IsLaidIn, with_one}
use Rattle.viewed_steps.proofs.Entered.{IsKindOfCopy, IsPlainPassed, IsPlainOne, IsTyped, IsFit, HasWords}
use Rattle.viewed_steps.proofs.Views.{AreAccess, view_access, given_cases, unowned_view}
use Rattle.soundness.proofs.Parted.{loc_frames, loc_objects}

-- A memory has the cells of another one, with their types.
pub record HasCells (m n : Memory) : Type 0 where
  pub count : length n.cells ≡ length m.cells
  pub same : (k : ℕ) → (cell n k).of ≡ (cell m k).of

pub same_cells : (m n : Memory) → n.cells ≡ m.cells → HasCells m n
same_cells m n e = record { count = ap length e; same = λ k. subst (λ cells. (cell (record m { cells = cells }) k).of ≡ (cell m k).of) (sym e) refl }

pub then_cells : (a b c : Memory) → HasCells a b → HasCells b c → HasCells a c
then_cells a b c first second = record { count = second.count ∙ first.count; same = λ k. second.same k ∙ first.same k }

put_cells : (b : Base) (slots : List Slot) (m : Memory) → HasCells m (put b slots m)
put_cells (memory.OfVariable f x) slots m = record { count = refl; same = λ k. refl }
put_cells (memory.OfCell zero) slots m = record { count = refl; same = λ k. refl }
put_cells (memory.OfCell (suc n)) slots m = record { count = at_length n (λ (c : HeapCell). record c { slots = slots }) m.cells; same = by_number }
  where
    one : (k : ℕ) (cs : List HeapCell) (i : ℕ) → (get_or (at_number k (λ (c : HeapCell). record c { slots = slots }) cs) i no_cell).of ≡ (get_or cs i no_cell).of
    one k [] i = refl
    one zero (c ∷ cs) zero = refl
    one zero (c ∷ cs) (suc i) = refl
    one (suc k) (c ∷ cs) zero = refl
    one (suc k) (c ∷ cs) (suc i) = one k cs i

    by_number : (k : ℕ) → (cell (put (memory.OfCell (suc n)) slots m) k).of ≡ (cell m k).of
    by_number zero = refl
    by_number (suc k) = one n m.cells k

with_slots_cells : (s : Typing) (k : Place) (slots : List Slot) (m : Memory) → HasCells m (with_slots s k slots m)
with_slots_cells s k slots m = put_cells k.base (take k.at (slots_at s m k.base) ++ slots ++ drop (k.at + length slots) (slots_at s m k.base)) m

moved_cells : (s : Typing) (k : Place) (m : Memory) → HasCells m (moved_out s k m)
moved_cells s k m = with_slots_cells s k (gone_at (access_offsets s.table k.of) (slots_of s m k)) m

pub taken_cells : (s : Typing) (k : Place) (f x : ℕ) (ws : List machine.Word) (m : Memory) → HasCells m (declared f x ws (moved_out s k m))
taken_cells s k f x ws m = (let moved = moved_cells s k m in record { count = moved.count; same = moved.same })

cell_then : (s : Typing) (m n : Memory) → HasCells m n → (d k : ℕ) → IsCell s m d k → IsCell s n d k
cell_then s m n had d k these = let (some, low, fits) = these in (some, (let count = had.count in omega (arith, low, count)), subst (Matches s.table d) (sym (had.same k)) fits)

module _ (s : Typing) (sees : ℕ → Bool) (settled : IsSettled s.table) (own_law : OwnsByShape s.table) (in_formals : AreAccess s) (hands : List Waiting) (leaks : List Leak) where
  -- What one formal that places are taken for changes in no variable but its own: owners see the same, and views
  -- have what they had, but for the formal itself.
  pub record Stands (f x : ℕ) (a : Passed) (m n : Memory) : Type 0 where
    pub same : IsSame (seen s m hands leaks) (seen s n hands leaks)
    pub typed : Kept s n hands
    pub hold : (g y : ℕ) (p : List Step) → word_in s.table (content s n [] (OfRoot (OfVariable g y))) p ≡ word_in s.table (content s m [] (OfRoot (OfVariable g y))) p
    pub views : (g y : ℕ) → is_view s y ≡ true
        → ((i : ℕ) → (get_or (variable_slots s g y n.variables) i no_slot).word ≡ (get_or (variable_slots s g y m.variables) i no_slot).word)
        ⊎ ((g ≡ f) × (x ≡ y) × (ws : List machine.Word) × (a ≡ Value ws) × HasWords s g y n ws)
    pub cells : HasCells m n

  module _ (f x : ℕ) (z : machine.Word) (m : Memory) (shown : (is_given s x ≡ true) × (is_bundle s x ≡ false)) (typed : IsTyped s m x z) (kept : Kept s m hands) where
    abbrev next : Memory
    next = declared f x (z ∷ []) m

    others : (g y : ℕ) → (OfVariable f x ≡ OfVariable g y → ⊥) → variable_slots s g y next.variables ≡ variable_slots s g y m.variables
    others g y ne = put_other s f x g y ne (fresh (z ∷ [])) m.variables

    by_variable : (rest : List Waiting) (g y : ℕ) (p : List Step)
        → word_in s.table (content s next rest (OfRoot (OfVariable g y))) p ≡ word_in s.table (content s m rest (OfRoot (OfVariable g y))) p
    by_variable rest g y p = elim (same_loc (OfRoot (OfVariable f x)) (OfRoot (OfVariable g y))) [
      | inr ne ↦ ap (λ q. word_in s.table (record { of = (object_at s y).of; slots = q; owns = not (is_view_formal s y) }) p) (others g y (λ e. ne (ap OfRoot e)))
      | inl e ↦ (
          let same : x ≡ y = loc_objects e in
          elim (given_cases s x shown.0) [
            | inl formal ↦ (
                let dead : not (is_view_formal s y) ≡ false = ap not (ap (is_view_formal s) (sym same) ∙ formal) in
                word_dead s.table (content s next rest (OfRoot (OfVariable g y))) p dead ∙ sym (word_dead s.table (content s m rest (OfRoot (OfVariable g y))) p dead))
            | inr anonymous ↦ (
                let none : is_leaf s.table (object_at s y).of p ≡ false =
                subst (λ z. is_leaf s.table (object_at s z).of p ≡ false) same ((keeps s settled own_law).ownerless (object_at s x).of (unowned_view s own_law x anonymous) p) in
                word_no s.table (content s next rest (OfRoot (OfVariable g y))) p none ∙ sym (word_no s.table (content s m rest (OfRoot (OfVariable g y))) p none))
          ])
    ]

    access : IsAccess s x
    access = view_access s sees in_formals x (given_view s x shown.0) shown.1

    by_place : (l : Loc) (p : List Step) → word_in s.table (content s next hands l) p ≡ word_in s.table (content s m hands l) p
    by_place (OfRoot (OfVariable g y)) p = by_variable hands g y p
    by_place (OfRoot (OfHand h)) p = refl
    by_place (OfCell n) p = refl
    by_place (Inside l i) p = by_place l p

    value_points : Points s m (content s m ((record { of = (object_at s x).of; words = z ∷ [] }) ∷ []) (OfRoot (OfHand 0)))
    value_points p d c n k there is e =
        let none = plain_end s.table settled (object_at s x).of (ap components_of access.3) (ap machine.count_of access.3) p there in
        typed d c n k (ap (λ q. shape_of s.table (type_in s.table (object_at s x).of q)) (sym none) ∙ is)
        (ap (λ q. (get_or (fresh (z ∷ [])) (offset_in s.table (object_at s x).of q) no_slot).word) (sym none) ∙ e)

    one_word : words s.table (object_at s x).of ≡ 1
    one_word = settled.word_law (object_at s x).of ∙ ap (shape_words (words s.table)) access.3

    pub shown_stands : Stands f x (Value (z ∷ [])) m next
    shown_stands = record {
      same = record { word = λ l. by_place (trunk l) (steps_in l); made = refl; freed = λ n. refl; leaked = λ n. refl };
      typed = declared_kept s settled m f x (record { of = (object_at s x).of; words = z ∷ [] }) hands
          (kept_with s settled m (record { of = (object_at s x).of; words = z ∷ [] }) hands value_points kept) (sym one_word) (inl refl);
      hold = λ g y p. by_variable [] g y p;
      views = λ g y view. elim (same_loc (OfRoot (OfVariable f x)) (OfRoot (OfVariable g y))) [
        | inr ne ↦ inl (λ i. ap (λ q. (get_or q i no_slot).word) (others g y (λ e. ne (ap OfRoot e))))
        | inl e ↦ (
            let here : f ≡ g = loc_frames e in let same : x ≡ y = loc_objects e in
            inr (
              sym here,
              same,
              z ∷ [],
              refl,
              λ i. ap (λ q. (get_or q i no_slot).word) ((λ j. variable_slots s (sym here j) (sym same j) next.variables) ∙ put_same s f x (fresh (z ∷ [])) m.variables),
            ))
      ];
      cells = record { count = refl; same = λ k. refl };
    }

  module _ (f x : ℕ) (ws : List machine.Word) (m : Memory) (kind : IsKindOfCopy s x) (fit : IsFit s m (object_at s x).of ws) (kept : Kept s m hands) where
    abbrev copied : Memory
    copied = declared f x ws m

    copied_others : (g y : ℕ) → (OfVariable f x ≡ OfVariable g y → ⊥) → variable_slots s g y copied.variables ≡ variable_slots s g y m.variables
    copied_others g y ne = put_other s f x g y ne (fresh ws) m.variables

    copied_word : (rest : List Waiting) (g y : ℕ) (p : List Step)
        → word_in s.table (content s copied rest (OfRoot (OfVariable g y))) p ≡ word_in s.table (content s m rest (OfRoot (OfVariable g y))) p
    copied_word rest g y p = elim (same_loc (OfRoot (OfVariable f x)) (OfRoot (OfVariable g y))) [
      | inr ne ↦ ap (λ q. word_in s.table (record { of = (object_at s y).of; slots = q; owns = not (is_view_formal s y) }) p) (copied_others g y (λ e. ne (ap OfRoot e)))
      | inl e ↦ (
          let same : x ≡ y = loc_objects e in
          elim kind [
            | inl plain ↦ (
                let none : is_leaf s.table (object_at s y).of p ≡ false =
                subst (λ z. is_leaf s.table (object_at s z).of p ≡ false) same ((keeps s settled own_law).ownerless (object_at s x).of plain.0 p) in
                word_no s.table (content s copied rest (OfRoot (OfVariable g y))) p none ∙ sym (word_no s.table (content s m rest (OfRoot (OfVariable g y))) p none))
            | inr bundle ↦ (
                let dead : not (is_view_formal s y) ≡ false = ap not (ap (is_view_formal s) (sym same) ∙ bundle_formal s x bundle) in
                word_dead s.table (content s copied rest (OfRoot (OfVariable g y))) p dead ∙ sym (word_dead s.table (content s m rest (OfRoot (OfVariable g y))) p dead))
          ])
    ]

    copied_place : (l : Loc) (p : List Step) → word_in s.table (content s copied hands l) p ≡ word_in s.table (content s m hands l) p
    copied_place (OfRoot (OfVariable g y)) p = copied_word hands g y p
    copied_place (OfRoot (OfHand h)) p = refl
    copied_place (OfCell n) p = refl
    copied_place (Inside l i) p = copied_place l p

    pub copied_stands : Stands f x (Value ws) m copied
    copied_stands = record {
      same = record { word = λ l. copied_place (trunk l) (steps_in l); made = refl; freed = λ n. refl; leaked = λ n. refl };
      typed = declared_kept s settled m f x (record { of = (object_at s x).of; words = ws }) hands
          (kept_with s settled m (record { of = (object_at s x).of; words = ws }) hands fit.1 kept) fit.0 (inl refl);
      hold = λ g y p. copied_word [] g y p;
      views = λ g y view. elim (same_loc (OfRoot (OfVariable f x)) (OfRoot (OfVariable g y))) [
        | inr ne ↦ inl (λ i. ap (λ q. (get_or q i no_slot).word) (copied_others g y (λ e. ne (ap OfRoot e))))
        | inl e ↦ (
            let here : f ≡ g = loc_frames e in let same : x ≡ y = loc_objects e in
            inr (
              sym here,
              same,
              ws,
              refl,
              λ i. ap (λ q. (get_or q i no_slot).word) ((λ j. variable_slots s (sym here j) (sym same j) copied.variables) ∙ put_same s f x (fresh ws) m.variables),
            ))
      ];
      cells = record { count = refl; same = λ k. refl };
    }

  plain_cells : (f x : ℕ) (a : Passed) (m : Memory) → HasCells m (with_formal s f x a m)
  plain_cells f x (Value ws) m = record { count = refl; same = λ k. refl }
  plain_cells f x (From k) m = taken_cells s k f x (words_of s m k) m
  plain_cells f x (To k) m = taken_cells s k f x (machine.default s.table (object_at s x).of) m

  -- one for which no place is taken that owns
  pub one_stands : (f x : ℕ) (a : Passed) (before m : Memory) (cells : List Lodge) → IsPlainOne s before cells x a
      → (IsPlainPassed s cells a → IsLaidIn s sees settled own_law in_formals hands leaks m a) → HasCells before m → Kept s m hands → Stands f x a m (with_formal s f x a m)
  one_stands f x a before m cells (inl (scalar, plain)) laid had kept =
      let on = with_one s sees settled own_law in_formals hands leaks f x a m scalar (laid plain) kept in
      record { same = on.same; typed = on.typed; hold = on.hold; views = λ g y view. inl (λ i. on.views g y i view); cells = plain_cells f x a m }
  one_stands f x a before m cells (inr (inl (shown, z, is, typed))) laid had kept =
      subst (λ q. Stands f x q m (with_formal s f x q m)) (sym is)
      (shown_stands f x z m shown (λ d c n k shape_is e. cell_then s before m had d k (typed d c n k shape_is e)) kept)
  one_stands f x a before m cells (inr (inr (kind, ws, is, fit))) laid had kept =
      subst (λ q. Stands f x q m (with_formal s f x q m)) (sym is)
      (copied_stands f x ws m kind (fit.0, λ p d c n k has shape_is e. cell_then s before m had d k (fit.1 p d c n k has shape_is e)) kept)
