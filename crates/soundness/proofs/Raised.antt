-- A step that raises leaves the state before it, with the cells that it made, which count as freed:
-- that is well owned.
use Rattle.std.proofs.Common.{◌≡◌, refl, sym, ap, ◌∙◌, ◌⊎◌, inl, inr, ℕ, zero, suc, ◌+◌, ◌-◌, ◌<◌, ◌≤◌, true, false, not, List, [], ◌∷◌, ◌++◌, map, drop, length, get_or, arith, length-append}
use Rattle.std.proofs.lemmas.List.{get_or_past, get_or_append_left, get_or-append-add}
use Rattle.std.proofs.lemmas.Bool.{cases_lt, true≢false}
use Rattle.machine.specs.flow_paths.Objects.{Typing}
use Rattle.machine.specs.Memory.{Memory, HeapCell, cell, no_cell, as_freed, given_up}
use Rattle.machine.specs.States.{Waiting, Leak, State}
use Rattle.machine.specs.Owners.{WellOwned, waiting_in}
use Rattle.machine.specs.Step.{counted}
use Rattle.soundness.specs.OwnedWays.Ways.{Step, OfVariable, OfHand, Loc, OfRoot, OfCell, Inside, Way, Object, Lost, Into, All, Reaches, Owned, Covered}
use Rattle.soundness.specs.PartOffsets.Parts.{IsSettled}
use Rattle.soundness.specs.Seen.{content, trunk, steps_in, word_in, seen}
use Rattle.soundness.specs.Typed.{OwnsByShape}
use Rattle.soundness.specs.Sound.{view_of}
use Rattle.soundness.proofs.Joined.{trunk_trunk, not_inside}
use Rattle.soundness.proofs.Contents.{word_dead}
use Rattle.soundness.proofs.Owners.{well_owned}

-- what is counted as freed is freed, or isn't there
all_freed : (cs : List HeapCell) (i : ℕ) → (get_or (map as_freed cs) i no_cell).freed ≡ true
all_freed [] i = refl
all_freed (c ∷ cs) zero = refl
all_freed (c ∷ cs) (suc i) = all_freed cs i

module _ (s : Typing) (before m : Memory) where
  abbrev left : Memory
  left = given_up before m

  abbrev more : List HeapCell
  more = map as_freed (drop (length before.cells) m.cells)

  -- a cell is one from before, or it is freed now and wasn't there
  old_or_freed : (n : ℕ) → (cell left n ≡ cell before n) ⊎ (((cell left n).freed ≡ true) × ((cell before n).freed ≡ true))
  old_or_freed zero = inl refl
  old_or_freed (suc n) = elim (cases_lt n (length before.cells)) [
    | inl lt ↦ inl (get_or_append_left before.cells more no_cell n lt)
    | inr le ↦ inr (behind n le, ap (λ (c : HeapCell). c.freed) (get_or_past before.cells n no_cell le))
  ]
    where
      behind : (n : ℕ) → length before.cells ≤ n → (get_or (before.cells ++ more) n no_cell).freed ≡ true
      behind n le =
          let split : n ≡ length before.cells + (n - length before.cells) = omega (arith, le) in
          ap (λ i. (get_or (before.cells ++ more) i no_cell).freed) split
          ∙ ap (λ (c : HeapCell). c.freed) (get_or-append-add before.cells more (n - length before.cells) no_cell)
          ∙ all_freed (drop (length before.cells) m.cells) (n - length before.cells)

  same_freed : (n : ℕ) → (cell left n).freed ≡ (cell before n).freed
  same_freed n = elim (old_or_freed n) [ inl e ↦ ap (λ (c : HeapCell). c.freed) e | inr x ↦ x.0 ∙ sym x.1 ]

  same_word : (hands : List Waiting) (l : Loc) (p : List Step) → trunk l ≡ l → word_in s.table (content s left hands l) p ≡ word_in s.table (content s before hands l) p
  same_word hands (OfRoot (OfVariable f x)) p t = refl
  same_word hands (OfRoot (OfHand h)) p t = refl
  same_word hands (OfCell n) p t = elim (old_or_freed n) [
    | inl e ↦ ap (λ (c : HeapCell). word_in s.table (record { of = c.of; slots = c.slots; owns = not c.freed }) p) e
    | inr x ↦ word_dead s.table (content s left hands (OfCell n)) p (ap not x.0) ∙ sym (word_dead s.table (content s before hands (OfCell n)) p (ap not x.1))
  ]
  same_word hands (Inside l i) p t = absurd (not_inside l l i t)

  -- the views differ in the count of cells alone
  module _ (hands : List Waiting) (leaks : List Leak) (owned : Owned (seen s before hands leaks)) (covered : Covered (seen s before hands leaks)) where
    word_same : (l : Loc) → (seen s left hands leaks).word l ≡ (seen s before hands leaks).word l
    word_same l = same_word hands (trunk l) (steps_in l) (trunk_trunk l)

    more_made : (n : ℕ) → n < suc (length before.cells) → n < suc (length left.cells)
    more_made n lt = let long : length (before.cells ++ more) ≡ length before.cells + length more = length-append before.cells more in omega (arith, lt, long)

    on : (w : Way) (l : Loc) → Reaches (seen s before hands leaks) w l → Reaches (seen s left hands leaks) w l
    on (Object r) l e = e
    on (Lost n) l e = e
    on (Into w i) l (k, r, e) = (k, on w k r, e)
    on (All w) l (k, n, r, h, e) = (k, n, on w k r, word_same k ∙ h, e)

    pub left_owned : Owned (seen s left hands leaks)
    left_owned = record {
      unique = λ l k n a b. owned.unique l k n (sym (word_same l) ∙ a) (sym (word_same k) ∙ b);
      live = λ l n a. same_freed n ∙ owned.live l n (sym (word_same l) ∙ a);
      within = λ l n a. more_made n (owned.within l n (sym (word_same l) ∙ a));
      kept = λ l n a. owned.kept l n (sym (word_same l) ∙ a);
      counted = λ n a. more_made n (owned.counted n a);
    }

    pub left_covered : Covered (seen s left hands leaks)
    left_covered n lt free =
        let was : (cell before n).freed ≡ false = sym (same_freed n) ∙ free in
        let way = covered n (there n was) was in
        (way.0, on way.0 (OfCell n) way.1)
      where
        there : (n : ℕ) → (cell before n).freed ≡ false → n < suc (length before.cells)
        there zero free = omega arith
        there (suc n) free = elim (cases_lt n (length before.cells)) [
          | inl less ↦ omega (arith, less)
          | inr le ↦ (let dead : true ≡ false = sym (ap (λ (c : HeapCell). c.freed) (get_or_past before.cells n no_cell le)) ∙ free in absurd (true≢false dead))
        ]

-- the state that a raising step leaves
pub raised_owned : (s : Typing) → IsSettled s.table → OwnsByShape s.table → (state : State) → Owned (view_of s state) → Covered (view_of s state)
    → (m : Memory) → WellOwned s (counted (record state { memory = given_up state.memory m }))
raised_owned s settled own_law state owned covered m =
    well_owned s settled own_law (counted (record state { memory = given_up state.memory m }))
    (left_owned s state.memory m (waiting_in state) state.leaks owned covered)
    (left_covered s state.memory m (waiting_in state) state.leaks owned covered)
