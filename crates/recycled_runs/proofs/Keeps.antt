-- A memory with null where something was moved: nothing of it is gone, and it keeps what the other one keeps.
use Rattle.std.proofs.Common.{◌≡◌, refl, sym, ap, ◌∙◌, subst, inl, inr, ℕ, zero, suc, ◌≤◌, Bool, true, false, List, [], ◌∷◌, map, get_or, if◌then◌else◌}
use Rattle.machine.specs.type_definitions.Types.{shape_of, words}
use Rattle.machine.specs.flow_paths.Objects.{Typing, object_at}
use Rattle.machine.specs.Words.{Word, Cell, default}
use Rattle.machine.specs.Memory.{Slot, Memory, Base, OfVariable, OfCell, fresh, cell, slots_at, no_slot}
use Rattle.machine.specs.States.{Waiting}
use Rattle.soundness.specs.OwnedWays.Ways.{Loc, OfRoot, OfHand, Inside}
use Rattle.soundness.specs.OwnedWays.Ways as ways
use Rattle.soundness.specs.PartOffsets.Parts.{type_in, offset_in, has_part}
use Rattle.soundness.specs.Seen.{content}
use Rattle.soundness.specs.Typed.{Matches, IsCell, Kept, Points}
use Rattle.recycled_runs.specs.ViewedFacts.NullPlaces.Cleared.{cleared_slot}
use Rattle.recycled_runs.specs.ViewedFacts.NullPlaces.Cleared as null_places
use Rattle.recycled_runs.specs.ViewedFacts.NullPlaces.Agrees.{AgreeSlot, AgreeSlots, Agrees}
use Rattle.recycled_runs.proofs.ViewedFacts.NullPlaces.Lists.{pair_length}
use Rattle.recycled_runs.proofs.ViewedFacts.NullPlaces.Memories.{cell_agree, count_agree, slots_agree}
use Rattle.recycled_runs.proofs.Nulls.{variable_clear, cell_clear}

-- ---- nothing is gone

abbrev pub IsNull : Typing → Memory → Type 0
IsNull s m = (b : Base) (o : ℕ) → (get_or (slots_at s m b) o no_slot).gone ≡ false

one_clear : (x : Slot) → (cleared_slot x).gone ≡ false
one_clear x = by x.gone refl
  where
    by : (b : Bool) → x.gone ≡ b → (if b then no_slot else x).gone ≡ false
    by true gone = refl
    by false gone = gone

clear_slots : (xs : List Slot) (o : ℕ) → (get_or (map cleared_slot xs) o no_slot).gone ≡ false
clear_slots [] o = refl
clear_slots (x ∷ xs) zero = one_clear x
clear_slots (x ∷ xs) (suc o) = clear_slots xs o

pub null_cleared : (s : Typing) (m : Memory) → IsNull s (null_places.cleared m)
null_cleared s m (OfVariable f x) o = ap (λ xs. (get_or xs o no_slot).gone) (variable_clear s m f x) ∙ clear_slots (slots_at s m (OfVariable f x)) o
null_cleared s m (OfCell zero) o = refl
null_cleared s m (OfCell (suc n)) o = ap (λ (c : _). (get_or c.slots o no_slot).gone) (cell_clear m n) ∙ clear_slots (cell m (suc n)).slots o

fresh_slots : (ws : List Word) (o : ℕ) → (get_or (fresh ws) o no_slot).gone ≡ false
fresh_slots [] o = refl
fresh_slots (w ∷ ws) zero = refl
fresh_slots (w ∷ ws) (suc o) = fresh_slots ws o

pub null_empty : (s : Typing) (m : Memory) → m.variables ≡ [] → m.cells ≡ [] → IsNull s m
null_empty s m variables cells (OfVariable f x) o = subst (λ (vs : List _). (get_or (slots_at s (record m { variables = vs }) (OfVariable f x)) o no_slot).gone ≡ false) (sym variables) (fresh_slots (default s.table (object_at s x).of) o)
null_empty s m variables cells (OfCell zero) o = refl
null_empty s m variables cells (OfCell (suc n)) o = subst (λ (cs : List _). (get_or (slots_at s (record m { cells = cs }) (OfCell (suc n))) o no_slot).gone ≡ false) (sym cells) refl

-- ---- what is kept

same_slot : (x y : Slot) (n : ℕ) → AgreeSlot x y → y.word ≡ Cell n → y.gone ≡ false → x.word ≡ Cell n
same_slot x y n (inl same) word whole = ap (λ (z : Slot). z.word) same ∙ word
same_slot x y n (inr both) word whole = absurd (no (sym word ∙ ap (λ (z : Slot). z.word) (kept ∙ both.1)))
  where
    kept : y ≡ cleared_slot y
    kept = ap (λ b. if b then no_slot else y) (sym whole)

    no : Cell n ≡ no_slot.word → ⊥
    no e = cc

same_at : (xs ys : List Slot) (o n : ℕ) → AgreeSlots xs ys → (get_or ys o no_slot).word ≡ Cell n → (get_or ys o no_slot).gone ≡ false → (get_or xs o no_slot).word ≡ Cell n
same_at [] [] o n agree word whole = word
same_at [] (y ∷ ys) o n agree word whole = absurd agree
same_at (x ∷ xs) [] o n agree word whole = absurd agree
same_at (x ∷ xs) (y ∷ ys) zero n agree word whole = same_slot x y n agree.0 word whole
same_at (x ∷ xs) (y ∷ ys) (suc o) n agree word whole = same_at xs ys o n agree.1 word whole

module _ (s : Typing) (m n : Memory) (hands : List Waiting) (agrees : Agrees m n) (none : IsNull s n) (kept : Kept s m hands) where
  cell_there : (d k : ℕ) → IsCell s m d k → IsCell s n d k
  cell_there d k is = (is.0, subst (λ j. k ≤ j) (count_agree m n agrees) is.1, subst (Matches s.table d) (cell_agree m n agrees k).0 is.2)

  points : (l : Loc) → Points s n (content s n hands l)
  points (OfRoot (ways.OfVariable f x)) p d constant named k has is word =
      cell_there d k (kept.points (OfRoot (ways.OfVariable f x)) p d constant named k has is
      (same_at (slots_at s m (OfVariable f x)) (slots_at s n (OfVariable f x)) (offset_in s.table (object_at s x).of p) k (slots_agree s m n agrees (OfVariable f x)) word
      (none (OfVariable f x) (offset_in s.table (object_at s x).of p))))
  points (OfRoot (OfHand h)) p d constant named k has is word = cell_there d k (kept.points (OfRoot (OfHand h)) p d constant named k has is word)
  points (ways.OfCell j) p d constant named k has is word =
      let of : (cell n j).of ≡ (cell m j).of = sym (cell_agree m n agrees j).0 in
      let slot : (get_or (cell n j).slots (offset_in s.table (cell m j).of p) no_slot).word ≡ Cell k = ap (λ t. (get_or (cell n j).slots (offset_in s.table t p) no_slot).word) (sym of) ∙ word in
      cell_there d k (kept.points (ways.OfCell j) p d constant named k (ap (λ t. has_part s.table t p) (sym of) ∙ has) (ap (λ t. shape_of s.table (type_in s.table t p)) (sym of) ∙ is)
      (same_at (cell m j).slots (cell n j).slots (offset_in s.table (cell m j).of p) k (cell_agree m n agrees j).2 slot (none (OfCell j) (offset_in s.table (cell m j).of p))))
  points (Inside l i) p d constant named k has is word = points l p d constant named k has is word

  pub kept_null : Kept s n hands
  kept_null = record {
    variables = λ f x. sym (pair_length AgreeSlot (slots_at s m (OfVariable f x)) (slots_at s n (OfVariable f x)) (slots_agree s m n agrees (OfVariable f x))) ∙ kept.variables f x;
    cells = λ k low high. sym (pair_length AgreeSlot (cell m k).slots (cell n k).slots (cell_agree m n agrees k).2)
        ∙ (kept.cells k low (subst (λ j. k ≤ j) (sym (count_agree m n agrees)) high) ∙ ap (words s.table) (cell_agree m n agrees k).0);
    points = points;
  }
