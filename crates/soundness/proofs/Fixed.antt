-- Words of a scalar type that are put at a place: owners don't see it, and words stay typed.
use Rattle.std.proofs.Common.{◌≡◌, refl, sym, ap, ◌∙◌, subst, inl, inr, ℕ, suc, ◌+◌, ◌<◌, ◌≤◌, true, false, ◌&&◌, ◌⊎◌, List, ◌++◌, length, get_or, arith, append-nil, if◌then◌else◌}
use Rattle.std.proofs.lemmas.Bool.{true≢false}
use Rattle.machine.specs.type_definitions.Types.{shape_of, words, full, view_of, is_scalar}
use Rattle.machine.specs.flow_paths.Objects.{Typing, object_at}
use Rattle.machine.specs.Memory.{Memory, Place, Slot, no_slot, with_slots}
use Rattle.machine.specs.States.{Waiting, Leak}
use Rattle.soundness.specs.OwnedWays.Ways.{Step, Loc, OfRoot, IsSame, part}
use Rattle.soundness.specs.OwnedWays.Ways as ways
use Rattle.soundness.proofs.OwnedWays.Locations.{same_loc}
use Rattle.soundness.specs.PartOffsets.Parts.{type_in, offset_in, has_part, is_leaf, IsSettled}
use Rattle.soundness.proofs.PartOffsets.Ranges.{leaf_outside}
use Rattle.soundness.specs.Seen.{Content, content, owner_word, trunk, steps_in, word_in, seen}
use Rattle.soundness.specs.Changes.{Put}
use Rattle.soundness.specs.Typed.{Matches, Kept, Spot, IsFixed, IsMade, loc_of}
use Rattle.soundness.proofs.Joined.{trunk_trunk, trunk_part, steps_part, leaf_join}
use Rattle.soundness.proofs.Contents.{bool_cases, word_no}
use Rattle.soundness.proofs.Steps.{plain_shape, no_leaf, put_at, put_off, put_count, put_freed, room}

pub matches_scalar : (s : Typing) (t u : ℕ) → Matches s.table t u → is_scalar (full s.table t) ≡ true → is_scalar (full s.table u) ≡ true
matches_scalar s t u (inl e) plain = ap (λ z. is_scalar (view_of z)) (sym e) ∙ plain
matches_scalar s t u (inr (a, b)) plain = b

-- ---- other slots at a scalar place

module _ (s : Typing) (settled : IsSettled s.table) (m : Memory) (hands : List Waiting) (k : Place) (l : Loc) (spot : Spot s m hands k l)
    (kept : Kept s m hands) (plain : is_scalar (full s.table k.of) ≡ true) (slots : List Slot) (long : length slots ≡ words s.table k.of) where
  abbrev whole : Content
  whole = content s m hands (loc_of k.base)

  abbrev whole_next : Content
  whole_next = content s (with_slots s k slots m) hands (loc_of k.base)

  change : Put whole whole_next k.at slots
  change = (let space = room s settled m hands kept k l spot in put_at s m hands k slots spot.made (omega (arith, space, long)))

  there : has_part s.table whole.of (steps_in l) ≡ true
  there = ap (λ z. has_part s.table (content s m hands z).of (steps_in l)) (sym spot.base) ∙ spot.there

  inner_of : Matches s.table k.of (type_in s.table whole.of (steps_in l))
  inner_of = subst (λ z. Matches s.table k.of (type_in s.table (content s m hands z).of (steps_in l))) spot.base spot.of

  at_there : k.at ≡ offset_in s.table whole.of (steps_in l)
  at_there = spot.at ∙ ap (λ z. offset_in s.table (content s m hands z).of (steps_in l)) spot.base

  -- a part that owns isn't in it
  not_in : (p : List Step) → is_leaf s.table whole.of p ≡ true → (r : List Step) → p ≡ r ++ steps_in l → ⊥
  not_in p leaf r e =
      let u : ℕ = type_in s.table whole.of (steps_in l) in
      let none = leaf_join s.table whole.of (steps_in l) r there ∙ no_leaf s.table settled u (matches_scalar s k.of u inner_of plain) r in
      let no : true ≡ false = sym leaf ∙ ap (is_leaf s.table whole.of) e ∙ none in absurd (true≢false no)

  apart : (p : List Step) → is_leaf s.table whole.of p ≡ true
      → (offset_in s.table whole.of p < k.at) ⊎ (k.at + length slots ≤ offset_in s.table whole.of p)
  apart p leaf =
      let at = at_there in
      let same : words s.table (type_in s.table whole.of (steps_in l)) ≡ words s.table k.of =
      plain_words (type_in s.table whole.of (steps_in l)) (matches_scalar s k.of (type_in s.table whole.of (steps_in l)) inner_of plain) ∙ sym (plain_words k.of plain) in
      elim (leaf_outside s.table settled whole.of p (steps_in l) leaf there (not_in p leaf)) [
        | inl before ↦ inl (omega (arith, before, at))
        | inr behind ↦ inr (omega (arith, behind, at, same, long))
      ]
    where
      plain_words : (t : ℕ) → is_scalar (full s.table t) ≡ true → words s.table t ≡ 1
      plain_words t e = settled.word_law t ∙ (plain_shape (shape_of s.table t) e).3 (words s.table)

  same_there : (p : List Step) → word_in s.table whole_next p ≡ word_in s.table whole p
  same_there p = elim (bool_cases (is_leaf s.table whole.of p)) [
    | inr none ↦ word_no s.table whole_next p (ap (λ t. is_leaf s.table t p) change.of ∙ none) ∙ sym (word_no s.table whole p none)
    | inl leaf ↦ (
        let slot : get_or whole_next.slots (offset_in s.table whole_next.of p) no_slot ≡ get_or whole.slots (offset_in s.table whole.of p) no_slot =
        ap (λ t. get_or whole_next.slots (offset_in s.table t p) no_slot) change.of ∙ change.outside (offset_in s.table whole.of p) (apart p leaf) in
        (λ j. if change.owns j && is_leaf s.table (change.of j) p then owner_word (slot j) else ways.Empty))
  ]

  pub put_word : (x : Loc) (p : List Step) → trunk x ≡ x
      → word_in s.table (content s (with_slots s k slots m) hands x) p ≡ word_in s.table (content s m hands x) p
  put_word x p t = elim (same_loc x (loc_of k.base)) [
    | inl e ↦ subst (λ z. word_in s.table (content s (with_slots s k slots m) hands z) p ≡ word_in s.table (content s m hands z) p) (sym e) (same_there p)
    | inr ne ↦ ap (λ c. word_in s.table c p) (put_off s m hands k slots x t ne)
  ]

  pub put_same_view : (leaks : List Leak) → IsSame (seen s m hands leaks) (seen s (with_slots s k slots m) hands leaks)
  put_same_view leaks = record {
    word = λ x. put_word (trunk x) (steps_in x) (trunk_trunk x);
    made = ap suc (put_count s m k.base _);
    freed = put_freed s m k.base _;
    leaked = λ n. refl;
  }

-- ---- fixed places

module _ (s : Typing) (settled : IsSettled s.table) where
  -- one word stands there
  pub plain_word : (t : ℕ) → is_scalar (full s.table t) ≡ true → words s.table t ≡ 1
  plain_word t e = settled.word_law t ∙ (plain_shape (shape_of s.table t) e).3 (words s.table)

  -- where it is
  abbrev pub fixed_at : (k : Place) → IsFixed s k → Loc
  fixed_at k fixed = part (OfRoot (ways.OfVariable fixed.frame fixed.object)) fixed.steps

  pub fixed_spot : (k : Place) (fixed : IsFixed s k) (m : Memory) (hands : List Waiting) → Spot s m hands k (fixed_at k fixed)
  fixed_spot k fixed m hands =
      let r : Loc = OfRoot (ways.OfVariable fixed.frame fixed.object) in
      let base : trunk (part r fixed.steps) ≡ r = trunk_part r fixed.steps in
      let steps : steps_in (part r fixed.steps) ≡ fixed.steps = steps_part r fixed.steps ∙ append-nil fixed.steps in
      record {
        base = base ∙ ap loc_of (sym fixed.base);
        made = subst (λ b. IsMade m b) (sym fixed.base) tt;
        at = fixed.at ∙ (λ j. offset_in s.table (content s m hands (sym base j)).of (sym steps j));
        there = (λ j. has_part s.table (content s m hands (base j)).of (steps j)) ∙ fixed.there;
        of = subst (λ z. Matches s.table k.of (type_in s.table (content s m hands z).of (steps_in (part r fixed.steps)))) (sym base)
            (subst (λ z. Matches s.table k.of (type_in s.table (object_at s fixed.object).of z)) (sym steps) fixed.of);
      }
