-- A cell is freed, and its name becomes null.
use Rattle.std.proofs.Common.{◌≡◌, refl, sym, ap, ◌∙◌, subst, ◌⊎◌, inl, inr, ℕ, zero, suc, ◌+◌, ◌≤◌, true, false, not, List, [], ◌∷◌, ◌++◌, take, drop, length, arith}
use Rattle.std.proofs.lemmas.Bool.{true≢false}
use Rattle.machine.specs.type_definitions.Types.{shape_of, words}
use Rattle.machine.specs.flow_paths.Objects.{Typing}
use Rattle.machine.specs.Words as machine
use Rattle.machine.specs.Memory.{Slot, Memory, Place, HeapCell, fresh, cell, no_cell, slots_at, freed, as_freed, with_cell, stored}
use Rattle.machine.specs.Memory as memory
use Rattle.machine.specs.States.{Waiting, Leak}
use Rattle.soundness.specs.OwnedWays.Ways.{Step, OfVariable, OfHand, Loc, OfRoot, OfCell, Inside, Empty, Below, IsRelease}
use Rattle.soundness.proofs.OwnedWays.Locations.{same_loc}
use Rattle.soundness.specs.PartOffsets.Parts.{type_in, offset_in, has_part, owns_one, is_leaf, IsSettled}
use Rattle.soundness.proofs.PartOffsets.Ranges.{both_parts, leaf_end, leaf_part, leaf_words}
use Rattle.soundness.specs.Seen.{Content, content, trunk, steps_in, word_in, seen}
use Rattle.soundness.specs.Changes.{Put, Checks}
use Rattle.soundness.specs.Typed.{Kept, Spot, loc_of, IsMade}
use Rattle.soundness.proofs.Joined.{trunk_trunk, not_inside, below_from, below_cell}
use Rattle.soundness.proofs.Contents.{bool_cases, word_no, word_dead, word_part, put_outside, put_inside}
use Rattle.soundness.proofs.Memories.{at_same, at_other, at_length}
use Rattle.soundness.proofs.Steps.{matches_words, put_at, put_off, put_count, put_freed, content_slots, room}
use Rattle.soundness.proofs.Parted.{by_either}

-- ---- the cells of a memory in which one is freed

module _ (s : Typing) (m : Memory) (n : ℕ) where
  pub freed_count : length (freed n m).cells ≡ length m.cells
  freed_count = by_number n
    where
      by_number : (n : ℕ) → length (with_cell n as_freed m.cells) ≡ length m.cells
      by_number zero = refl
      by_number (suc k) = at_length k as_freed m.cells

  pub freed_other : (c : ℕ) → (c ≡ n → ⊥) → cell (freed n m) c ≡ cell m c
  freed_other c ne = by_number n c ne
    where
      by_number : (n c : ℕ) → (c ≡ n → ⊥) → cell (freed n m) c ≡ cell m c
      by_number zero zero ne = refl
      by_number zero (suc c) ne = refl
      by_number (suc n) zero ne = refl
      by_number (suc n) (suc c) ne = at_other n c as_freed m.cells no_cell (λ e. ne (ap suc (sym e)))

  pub freed_same : 1 ≤ n → n ≤ length m.cells → cell (freed n m) n ≡ as_freed (cell m n)
  freed_same lo hi = by_number n lo hi
    where
      by_number : (n : ℕ) → 1 ≤ n → n ≤ length m.cells → cell (freed n m) n ≡ as_freed (cell m n)
      by_number zero lo hi = absurd (omega (arith, lo))
      by_number (suc n) lo hi = at_same n as_freed m.cells no_cell (omega (arith, hi))

  pub freed_there : (hands : List Waiting) (k : Loc) → trunk k ≡ k → (k ≡ OfCell n → ⊥) → content s (freed n m) hands k ≡ content s m hands k
  freed_there hands (OfRoot (OfVariable f x)) t ne = refl
  freed_there hands (OfRoot (OfHand h)) t ne = refl
  freed_there hands (OfCell c) t ne = ap (λ (z : HeapCell). record { of = z.of; slots = z.slots; owns = not z.freed }) (freed_other c (λ e. ne (ap OfCell e)))
  freed_there hands (Inside l i) t ne = absurd (not_inside l l i t)

-- ---- the release

same_step : (i j : Step) → (i ≡ j) ⊎ (i ≡ j → ⊥)
same_step i j = elim (same_loc (Inside (OfCell 0) i) (Inside (OfCell 0) j)) [
  | inl e ↦ inl cc
  | inr isnt ↦ inr (λ e. isnt (ap (Inside (OfCell 0)) e))
]

same_steps : (p q : List Step) → (p ≡ q) ⊎ (p ≡ q → ⊥)
same_steps [] [] = inl refl
same_steps [] (j ∷ q) = inr (λ e. cc)
same_steps (i ∷ p) [] = inr (λ e. cc)
same_steps (i ∷ p) (j ∷ q) = elim (same_step i j) [
  | inr isnt ↦ inr (λ e. (let head : i ≡ j = cc in isnt head))
  | inl head ↦ elim (same_steps p q) [
    | inr isnt ↦ inr (λ e. (let tail : p ≡ q = cc in isnt tail))
    | inl tail ↦ inl (λ x. head x ∷ tail x)
  ]
]

not_longer : (r q : List Step) → [] ≡ r ++ q → ([] ≡ q → ⊥) → ⊥
not_longer [] q e isnt = isnt e
not_longer (i ∷ r) q e isnt = cc

-- one list ends with another one, or doesn't
in_or_not : (p q : List Step) → ((r : List Step) × (p ≡ r ++ q)) ⊎ ((r : List Step) → p ≡ r ++ q → ⊥)
in_or_not [] q = by_either (same_steps [] q) (λ e. (inl ([], e))) (λ isnt. (inr (λ r e. not_longer r q e isnt)))
in_or_not (i ∷ p) q = by_either (same_steps (i ∷ p) q)
    (λ e. (inl ([], e)))
    (λ isnt. (by_either (in_or_not p q) (λ found. (inl (i ∷ found.0, ap (λ z. i ∷ z) found.1))) (λ off. (inr (λ r e. never r e isnt off)))))
  where
    never : (r : List Step) → i ∷ p ≡ r ++ q → (i ∷ p ≡ q → ⊥) → ((r : List Step) → p ≡ r ++ q → ⊥) → ⊥
    never [] e isnt off = isnt e
    never (j ∷ r) e isnt off = let tail : p ≡ r ++ q = cc in off r tail

pub made_still : (s : Typing) (m : Memory) (n : ℕ) (b : memory.Base) → IsMade m b → IsMade (freed n m) b
made_still s m n (memory.OfVariable f x) made = tt
made_still s m n (memory.OfCell c) made = (made.0, subst (λ z. c ≤ z) (sym (freed_count s m n)) made.1)

module _ (s : Typing) (settled : IsSettled s.table) (m : Memory) (hands : List Waiting) (leaks leaks' : List Leak) (n : ℕ) (k : Place) (l : Loc)
    (kept : Kept s m hands) (spot : Spot s m hands k l) (lo : 1 ≤ n) (hi : n ≤ length m.cells)
    (leaf : is_leaf s.table (content s m hands (trunk l)).of (steps_in l) ≡ true) (owns : (content s m hands (trunk l)).owns ≡ true)
    (apart : trunk l ≡ OfCell n → ⊥)
    (checks : Checks s.table (content s m hands (OfCell n)) [] leaks leaks') where
  abbrev null_slots : List Slot
  null_slots = fresh (machine.Null ∷ [])

  abbrev after_free : Memory
  after_free = stored s k (machine.Null ∷ []) (freed n m)

  one : words s.table (type_in s.table (content s m hands (trunk l)).of (steps_in l)) ≡ 1
  one = leaf_words s.table settled (content s m hands (trunk l)).of (steps_in l) leaf

  base_apart : loc_of k.base ≡ OfCell n → ⊥
  base_apart e = apart (spot.base ∙ e)

  same_base : content s (freed n m) hands (loc_of k.base) ≡ content s m hands (loc_of k.base)
  same_base = subst (λ z. content s (freed n m) hands z ≡ content s m hands z) spot.base (freed_there s m n hands (trunk l) (trunk_trunk l) apart)

  fits : k.at + length null_slots ≤ length (slots_at s (freed n m) k.base)
  fits =
      let space = room s settled m hands kept k l spot in
      let same = matches_words s.table settled k.of (type_in s.table (content s m hands (trunk l)).of (steps_in l)) spot.of in
      let w = one in
      let slots : length (slots_at s (freed n m) k.base) ≡ length (slots_at s m k.base) =
      ap length (sym (content_slots s (freed n m) hands k.base (made_still s m n k.base spot.made)) ∙ ap (λ (c : Content). c.slots) same_base
      ∙ content_slots s m hands k.base spot.made) in
      omega (arith, space, same, w, slots)

  change : Put (content s m hands (trunk l)) (content s after_free hands (trunk l)) (offset_in s.table (content s m hands (trunk l)).of (steps_in l)) null_slots
  change =
      let raw = put_at s (freed n m) hands k null_slots (made_still s m n k.base spot.made) fits in
      let here : Put (content s m hands (loc_of k.base)) (content s after_free hands (loc_of k.base)) k.at null_slots =
      subst (λ z. Put z (content s after_free hands (loc_of k.base)) k.at null_slots) same_base raw in
      let at : k.at ≡ offset_in s.table (content s m hands (loc_of k.base)).of (steps_in l) =
      spot.at ∙ ap (λ z. offset_in s.table (content s m hands z).of (steps_in l)) spot.base in
      subst (λ z. Put (content s m hands z) (content s after_free hands z) (offset_in s.table (content s m hands z).of (steps_in l)) null_slots) (sym spot.base)
      (subst (λ o. Put (content s m hands (loc_of k.base)) (content s after_free hands (loc_of k.base)) o null_slots) at here)

  -- other contents stay, but for the cell
  stays : (z : Loc) → trunk z ≡ z → (z ≡ trunk l → ⊥) → (z ≡ OfCell n → ⊥) → content s after_free hands z ≡ content s m hands z
  stays z t ne cell_ne = put_off s (freed n m) hands k null_slots z t (λ e. ne (e ∙ sym spot.base)) ∙ freed_there s m n hands z t cell_ne

  dead : (content s after_free hands (OfCell n)).owns ≡ false
  dead =
      ap (λ (c : Content). c.owns) (put_off s (freed n m) hands k null_slots (OfCell n) refl (λ e. base_apart (sym e)))
      ∙ ap (λ (z : HeapCell). not z.freed) (freed_same s m n lo hi)

  -- within the argument is nothing but itself
  inside : (p : List Step) (i : Step) → word_in s.table (content s after_free hands (trunk l)) ((i ∷ p) ++ steps_in l) ≡ Empty
  inside p i = elim (bool_cases (is_leaf s.table (content s after_free hands (trunk l)).of ((i ∷ p) ++ steps_in l))) [
    | inr isnt ↦ word_no s.table (content s after_free hands (trunk l)) ((i ∷ p) ++ steps_in l) isnt
    | inl holds ↦ (
        let was : is_leaf s.table (content s m hands (trunk l)).of ((i ∷ p) ++ steps_in l) ≡ true =
        ap (λ t. is_leaf s.table t ((i ∷ p) ++ steps_in l)) (sym change.of) ∙ holds in
        let none = leaf_end s.table settled (content s m hands (trunk l)).of (i ∷ p) (steps_in l) leaf
        (leaf_part s.table settled (content s m hands (trunk l)).of ((i ∷ p) ++ steps_in l) was) in cc)
  ]

  -- a part of the argument that isn't itself is no leaf before either
  old_inside : (p : List Step) (i : Step) → word_in s.table (content s m hands (trunk l)) ((i ∷ p) ++ steps_in l) ≡ Empty
  old_inside p i = elim (bool_cases (is_leaf s.table (content s m hands (trunk l)).of ((i ∷ p) ++ steps_in l))) [
    | inr isnt ↦ word_no s.table (content s m hands (trunk l)) ((i ∷ p) ++ steps_in l) isnt
    | inl holds ↦ (
        let none = leaf_end s.table settled (content s m hands (trunk l)).of (i ∷ p) (steps_in l) leaf
        (leaf_part s.table settled (content s m hands (trunk l)).of ((i ∷ p) ++ steps_in l) holds) in cc)
  ]

  null_here : word_in s.table (content s after_free hands (trunk l)) ([] ++ steps_in l) ≡ Empty
  null_here =
      let own_leaf : is_leaf s.table (type_in s.table (content s m hands (trunk l)).of (steps_in l)) [] ≡ true =
      (both_parts (has_part s.table (content s m hands (trunk l)).of (steps_in l)) (owns_one (shape_of s.table (type_in s.table (content s m hands (trunk l)).of (steps_in l)))) leaf).1 in
      put_inside s.table settled (content s m hands (trunk l)) (content s after_free hands (trunk l)) (steps_in l) null_slots change
      (leaf_part s.table settled (content s m hands (trunk l)).of (steps_in l) leaf) (sym one) owns [] own_leaf

  outside : (z : Loc) → (z ≡ l → ⊥) → (Below (OfCell n) z → ⊥)
      → word_in s.table (content s after_free hands (trunk z)) (steps_in z) ≡ word_in s.table (content s m hands (trunk z)) (steps_in z)
  outside z other out = elim (same_loc (trunk z) (trunk l)) [
    | inr ne ↦ ap (λ c. word_in s.table c (steps_in z)) (stays (trunk z) (trunk_trunk z) ne (λ e. out (below_cell n z e)))
    | inl e ↦ ap (λ t. word_in s.table (content s after_free hands t) (steps_in z)) e
        ∙ here (steps_in z) (λ same. other (below_from l z [] e same)) (in_or_not (steps_in z) (steps_in l))
        ∙ sym (ap (λ t. word_in s.table (content s m hands t) (steps_in z)) e)
  ]
    where
      here : (p : List Step) → (p ≡ [] ++ steps_in l → ⊥) → ((r : List Step) × (p ≡ r ++ steps_in l)) ⊎ ((r : List Step) → p ≡ r ++ steps_in l → ⊥)
          → word_in s.table (content s after_free hands (trunk l)) p ≡ word_in s.table (content s m hands (trunk l)) p
      here p isnt (inl ([], e)) = absurd (isnt e)
      here p isnt (inl (i ∷ r, e)) =
          ap (word_in s.table (content s after_free hands (trunk l))) e ∙ inside r i ∙ sym (old_inside r i)
          ∙ sym (ap (word_in s.table (content s m hands (trunk l))) e)
      here p isnt (inr off) =
          put_outside s.table settled (content s m hands (trunk l)) (content s after_free hands (trunk l)) (steps_in l) null_slots change
          (leaf_part s.table settled (content s m hands (trunk l)).of (steps_in l) leaf) (sym one) p off

  pub releases : IsRelease (seen s m hands leaks) (seen s after_free hands leaks') l n
  releases = record {
    made = ap suc (put_count s (freed n m) k.base (take k.at (slots_at s (freed n m) k.base) ++ null_slots ++ drop (k.at + length null_slots) (slots_at s (freed n m) k.base)) ∙ freed_count s m n);
    spares = λ c free. (
        let now : (cell (freed n m) c).freed ≡ false = sym (put_freed s (freed n m) k.base (take k.at (slots_at s (freed n m) k.base) ++ null_slots ++ drop (k.at + length null_slots) (slots_at s (freed n m) k.base)) c) ∙ free in
        let ne : c ≡ n → ⊥ = λ e. (let is : true ≡ false = sym (ap (λ (z : HeapCell). z.freed) (ap (cell (freed n m)) e ∙ freed_same s m n lo hi)) ∙ now in absurd (true≢false is)) in
        (sym (ap (λ (z : HeapCell). z.freed) (freed_other s m n c ne)) ∙ now, ne));
    others = λ c free ne.
        put_freed s (freed n m) k.base (take k.at (slots_at s (freed n m) k.base) ++ null_slots ++ drop (k.at + length null_slots) (slots_at s (freed n m) k.base)) c
        ∙ ap (λ (z : HeapCell). z.freed) (freed_other s m n c ne) ∙ free;
    off = λ z other out. outside z other out;
    null = null_here;
    leaf = λ p i. word_part s.table (content s after_free hands) l (i ∷ p) ∙ inside p i;
    empty = λ p. word_part s.table (content s after_free hands) (OfCell n) p ∙ word_dead s.table (content s after_free hands (OfCell n)) (p ++ []) dead;
    keeps = checks.keeps;
    checks = λ p c e. checks.checks p c (sym (word_part s.table (content s m hands) (OfCell n) p) ∙ e);
    only = λ c e. elim (checks.only c e) [
      | inl old ↦ inl old
      | inr y ↦ inr (y.0, word_part s.table (content s m hands) (OfCell n) y.0 ∙ y.1)
    ];
  }
