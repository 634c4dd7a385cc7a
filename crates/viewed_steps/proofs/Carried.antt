-- What a place has is taken by a call, or by its end, and given to a place that has no number: the
-- state stays sound with views.
use Rattle.std.proofs.Common.{◌≡◌, refl, sym, ap, ◌∙◌, subst, ◌⊎◌, inl, inr, ℕ, ◌+◌, Bool, true, false, not, List, [], ◌∷◌, ◌++◌, take, drop, length, get_or, append-nil, suc, ◌<◌}
use Rattle.std.proofs.lemmas.Bool.{false≢true}
use Rattle.machine.specs.place_names.declared.fact.Fact.{Fact}
use Rattle.machine.specs.type_definitions.Types.{words}
use Rattle.machine.specs.flow_paths.Objects.{Typing, object_at}
use Rattle.machine.specs.Words.{access_offsets}
use Rattle.machine.specs.Words as machine
use Rattle.machine.specs.Memory as memory
use Rattle.machine.specs.Memory.{Slot, Memory, Place, fresh, cell, no_slot, slots_of, slots_at, words_of, gone_at, stored, moved_out}
use Rattle.machine.specs.States.{Waiting, Leak}
use Rattle.soundness.specs.OwnedWays.Ways.{Step, OfVariable, OfHand, Loc, OfRoot, OfCell, Way, Object, Lost, Into, All, Gone, Held, View, Reaches, Owned, IsMove, IsRooted, Root, Below, Under, Past, part, along, base_of}
use Rattle.soundness.proofs.OwnedWays.Locations.{below, past_under, reaches_along, under_along, under_itself, named_along}
use Rattle.soundness.proofs.OwnedWays.Assigned.{given_apart}
use Rattle.soundness.proofs.OwnedWays.Moving.{Given, keeps, owner_before}
use Rattle.soundness.specs.PartOffsets.Parts.{type_in, offset_in, has_part, is_leaf, IsSettled}
use Rattle.soundness.specs.Seen.{Content, content, trunk, steps_in, word_in, owner_at, seen_of, seen}
use Rattle.soundness.specs.Changes.{hand, Checks, Stores}
use Rattle.soundness.specs.Typed.{Matches, Kept, Spot, IsMade, loc_of}
use Rattle.soundness.proofs.Joined.{trunk_part, steps_part}
use Rattle.soundness.proofs.Contents.{bool_cases, word_yes, word_part, word_root, stored_step, stored_whole, taken_step}
use Rattle.soundness.proofs.Steps.{put_count, put_freed, stores, takes}
use Rattle.soundness.specs.OwnedLoans.Views.{Views, IsMovedBy}
use Rattle.viewed_steps.specs.Taken.{IsCellAt, IsInside, trunk_type, IsOwnAt}
use Rattle.viewed_steps.proofs.Lodged.{lodged_spot, cell_live}
use Rattle.viewed_steps.proofs.Between.{moved_between, base_under, base_along, same_variable, OwnersStand, Begins, begun_low}
use Rattle.viewed_steps.proofs.Constructors.{is_of_root_loc, is_of_variable_base}
use Rattle.soundness.proofs.Parted.{by_either}

-- ---- places in variables

rooted_base : (w : Way) (f x : ℕ) → base_of w ≡ OfRoot (OfVariable f x) → IsRooted w
rooted_base (Object r) f x is = tt
rooted_base (Lost n) f x is = cc
rooted_base (Into w i) f x is = rooted_base w f x is
rooted_base (All w) f x is = rooted_base w f x is

same_names : {f x g y : ℕ} → memory.OfVariable f x ≡ memory.OfVariable g y → OfVariable f x ≡ OfVariable g y
same_names e = cc

module _ (s : Typing) (depth : ℕ) (k : Place) (to : Way) (inside : IsInside s depth k to) where
  -- where it is
  abbrev pub inside_at : Loc
  inside_at = part inside.start inside.steps

  start_trunk : trunk inside.start ≡ inside.start
  start_trunk = elim inside.stands [
    | inl variable ↦ ap trunk variable.1 ∙ sym variable.1
    | inr there ↦ ap trunk there.1 ∙ sym there.1
  ]

  pub start_steps : steps_in inside.start ≡ []
  start_steps = elim inside.stands [ inl variable ↦ ap steps_in variable.1 | inr there ↦ ap steps_in there.1 ]

  pub trunk_is : trunk (part inside.start inside.steps) ≡ inside.start
  trunk_is = trunk_part inside.start inside.steps ∙ start_trunk

  pub inside_steps : steps_in (part inside.start inside.steps) ≡ inside.steps
  inside_steps = steps_part inside.start inside.steps ∙ ap (λ z. inside.steps ++ z) start_steps ∙ append-nil inside.steps

  -- where its cell is reached, if it is in one
  pub start_reached : (view : View) → ((n : ℕ) → inside.start ≡ OfCell n → Reaches view inside.trunk (OfCell n)) → Reaches view inside.trunk inside.start
  start_reached view there = elim inside.stands [
    | inl variable ↦ subst (λ w. Reaches view w inside.start) (sym variable.0) variable.1
    | inr cell ↦ subst (Reaches view inside.trunk) (sym cell.1) (there cell.0 cell.1)
  ]

  pub inside_spot : IsSettled s.table → (m : Memory) (hands : List Waiting) (leaks : List Leak) → Kept s m hands → Reaches (seen s m hands leaks) inside.trunk inside.start
      → Spot s m hands k (part inside.start inside.steps)
  inside_spot settled m hands leaks typed reach = elim inside.stands [
    | inl variable ↦ in_variable variable
    | inr there ↦ in_cell there
  ]
    where
      in_variable : IsOwnAt s depth inside.frame inside.object k inside.trunk inside.start → Spot s m hands k (part inside.start inside.steps)
      in_variable (trunk_there, start_there, base, at_home, owner) = record {
        base = trunk_is ∙ start_there ∙ ap loc_of (sym base);
        made = subst (λ b. IsMade m b) (sym base) tt;
        at = inside.at ∙ ap (λ z. offset_in s.table (trunk_type s z) inside.steps) trunk_there
            ∙ (λ j. offset_in s.table (content s m hands (sym (trunk_is ∙ start_there) j)).of (sym inside_steps j));
        there = (λ j. has_part s.table (content s m hands ((trunk_is ∙ start_there) j)).of (inside_steps j))
            ∙ ap (λ z. has_part s.table (trunk_type s z) inside.steps) (sym trunk_there) ∙ inside.there;
        of = subst (λ z. Matches s.table k.of (type_in s.table (content s m hands z).of (steps_in (part inside.start inside.steps)))) (sym (trunk_is ∙ start_there))
            (subst (λ z. Matches s.table k.of (type_in s.table (object_at s inside.object).of z)) (sym inside_steps)
            (subst (λ z. Matches s.table k.of (type_in s.table (trunk_type s z) inside.steps)) trunk_there inside.of));
      }

      in_cell : IsCellAt k inside.start → Spot s m hands k (part inside.start inside.steps)
      in_cell (n, start_there, base) =
          subst (λ z. Spot s m hands k (part z inside.steps)) (sym start_there)
          (lodged_spot s settled m hands leaks typed k (record { name = inside.trunk; way = inside.trunk; cell = n })
          (record { base = base; steps = inside.steps; there = inside.there; at = inside.at; of = inside.of })
          inside.frame inside.object inside.root (subst (Reaches (seen s m hands leaks) inside.trunk) start_there reach))

  pub inside_reached : (view : View) → Reaches view inside.trunk inside.start → Reaches view to (part inside.start inside.steps)
  inside_reached view reach =
      subst (λ w. Reaches view w (part inside.start inside.steps)) (sym inside.way) (reaches_along view inside.trunk inside.start inside.steps reach)

  pub inside_base : base_of to ≡ OfRoot (OfVariable inside.frame inside.object)
  inside_base = ap base_of inside.way ∙ base_along inside.trunk inside.steps ∙ inside.root

  -- no frame above
  pub inside_low : inside.frame < suc depth
  inside_low = begun_low s depth inside.frame inside.object inside.begins

  pub inside_begins : Begins s depth to
  inside_begins = (inside.frame, inside.object, inside_base, inside.begins)

  pub inside_rooted : IsRooted to
  inside_rooted = subst IsRooted (sym inside.way) (named_along inside.trunk inside.steps (rooted_base inside.trunk inside.frame inside.object inside.root))

  pub inside_owns : IsSettled s.table → (m : Memory) (hands : List Waiting) (leaks : List Leak) → Kept s m hands → Owned (seen s m hands leaks)
      → Reaches (seen s m hands leaks) inside.trunk inside.start → (content s m hands (trunk (part inside.start inside.steps))).owns ≡ true
  inside_owns settled m hands leaks typed owned reach = ap (λ z. (content s m hands z).owns) trunk_is ∙ elim inside.stands [
    | inl variable ↦ subst (λ z. (content s m hands z).owns ≡ true) (sym variable.1) (ap not variable.4)
    | inr there ↦
        subst (λ z. (content s m hands z).owns ≡ true) (sym there.1)
        (ap not (cell_live s settled m hands leaks typed inside.trunk inside.frame inside.object there.0 inside.root owned
        (subst (Reaches (seen s m hands leaks) inside.trunk) there.1 reach)))
  ]

  -- it isn't in another variable
  pub inside_other : (g y : ℕ) → (OfVariable inside.frame inside.object ≡ OfVariable g y → ⊥) → k.base ≡ memory.OfVariable g y → ⊥
  inside_other g y ne is = elim inside.stands [
    | inl variable ↦ ne (same_names (sym variable.2 ∙ is))
    | inr there ↦ no_names (sym there.2 ∙ is)
  ]
    where
      no_names : {n g y : ℕ} → memory.OfCell n ≡ memory.OfVariable g y → ⊥
      no_names e = absurd (false≢true (ap is_of_variable_base e))

  hands_same : (m : Memory) (hands : List Waiting) → content s m hands inside.start ≡ content s m [] inside.start
  hands_same m hands = elim inside.stands [
    | inl variable ↦ subst (λ z. content s m hands z ≡ content s m [] z) (sym variable.1) refl
    | inr there ↦ subst (λ z. content s m hands z ≡ content s m [] z) (sym there.1) refl
  ]

  -- the words there
  pub inside_word : (m : Memory) (hands : List Waiting) (p : List Step)
      → word_in s.table (content s m hands (trunk (part inside.start inside.steps))) (p ++ steps_in (part inside.start inside.steps))
      ≡ word_in s.table (content s m [] inside.start) (p ++ inside.steps)
  inside_word m hands p =
      (λ j. word_in s.table (content s m hands (trunk_is j)) (p ++ inside_steps j)) ∙ ap (λ z. word_in s.table z (p ++ inside.steps)) (hands_same m hands)

-- ---- hands and variables

hand_apart : {h f x : ℕ} → OfRoot (OfVariable f x) ≡ OfRoot (OfHand h) → ⊥
hand_apart e = cc

variable_off : (g y : ℕ) (p : List Step) (h : ℕ) → Below (hand h) (part (OfRoot (OfVariable g y)) p) → ⊥
variable_off g y p h these = let (q, is) = these in hand_apart (sym (trunk_part (OfRoot (OfVariable g y)) p) ∙ ap trunk is ∙ trunk_part (hand h) q)

pub cell_off : (c : ℕ) (p : List Step) (l : Loc) (r : Root) → trunk l ≡ OfRoot r → Below l (part (OfCell c) p) → ⊥
cell_off c p l r base (q, is) = other_trunk (sym (trunk_part (OfCell c) p) ∙ ap trunk is ∙ trunk_part l q ∙ base)
  where
    other_trunk : {c : ℕ} {r : Root} → OfCell c ≡ OfRoot r → ⊥
    other_trunk e = absurd (false≢true (ap is_of_root_loc e))

hand_differs : {a : Loc} {f x h : ℕ} → a ≡ OfRoot (OfVariable f x) → a ≡ OfRoot (OfHand h) → ⊥
hand_differs p q = cc

-- what begins in another frame doesn't go on after a way
pub past_other : (u w : Way) (f x g y : ℕ) → base_of u ≡ OfRoot (OfVariable f x) → base_of w ≡ OfRoot (OfVariable g y) → (g ≡ f → ⊥) → Past u w → ⊥
past_other u w f x g y base root off past = off (same_variable g y f x (sym root ∙ base_under u w (past_under u w past) ∙ base)).0

-- ---- what goes

module _ (s : Typing) (settled : IsSettled s.table) (home : ℕ → ℕ) (v : Views) (before_it gone : Way → Type 0) where
  abbrev whole_slots : Memory → Place → List Slot → List Slot
  whole_slots m k slots = take k.at (slots_at s m k.base) ++ slots ++ drop (k.at + length slots) (slots_at s m k.base)

  word_cell : (a : Loc → Content) (n : ℕ) (p : List Step)
      → word_in s.table (a (trunk (part (OfCell n) p))) (steps_in (part (OfCell n) p)) ≡ word_in s.table (a (OfCell n)) p
  word_cell a n p = word_part s.table a (OfCell n) p ∙ ap (word_in s.table (a (OfCell n))) (append-nil p)

  -- What a place has goes to a hand.
  module _ (m : Memory) (rest : List Waiting) (leaks : List Leak) (facts : List Fact) (k : Place) (l : Loc) (u : Way)
      (stand : OwnersStand home v facts before_it (seen s m rest leaks)) (kept : Kept s m rest) (spot : Spot s m rest k l)
      (rooted : IsRooted u) (reaches : Reaches (seen s m rest leaks) u l) (owns : (content s m rest (trunk l)).owns ≡ true)
      (clean : (w : Way) → Under u w → IsMovedBy home v facts w ⊎ before_it w → ⊥) where
    abbrev got : Waiting
    got = record { of = k.of; words = words_of s m k }

    abbrev a : Loc → Content
    a = content s m rest

    abbrev b : Loc → Content
    b = content s (moved_out s k m) (got ∷ rest)

    -- nothing at or below the place is gone
    whole : (p : List Step) → is_leaf s.table (content s m rest (trunk l)).of (p ++ steps_in l) ≡ true
        → (get_or (content s m rest (trunk l)).slots (offset_in s.table (content s m rest (trunk l)).of (p ++ steps_in l)) no_slot).gone ≡ false
    whole p leaf = elim (bool_cases (get_or (content s m rest (trunk l)).slots (offset_in s.table (content s m rest (trunk l)).of (p ++ steps_in l)) no_slot).gone) [
      | inr e ↦ e
      | inl e ↦ absurd (clean (along u p) (under_along u u p (under_itself u))
          (stand.known (along u p) (part l p) (named_along u p rooted) (reaches_along (seen s m rest leaks) u l p reaches)
          (word_part s.table (content s m rest) l p ∙ word_yes s.table (content s m rest (trunk l)) (p ++ steps_in l) owns leaf ∙ marked _ _ e)))
    ]
      where
        marked : (z : machine.Word) (g : Bool) → g ≡ true → owner_at z g ≡ Gone
        marked z true e = refl
        marked z false e = absurd (false≢true e)

    abbrev after : View
    after = seen_of s.table b (length m.cells) (λ n. (cell m n).freed) leaks

    move : IsMove (seen s m rest leaks) after l (hand (length rest))
    move =
        taken_step s.table settled a b (length rest) got l (length m.cells) (λ n. (cell m n).freed) leaks
        (takes s settled m rest kept k l spot owns (λ p leaf. whole p leaf))

    -- no number is left there
    pub carried_bare : (p : List Step) (c : ℕ) → word_in s.table (content s (moved_out s k m) (got ∷ rest) (trunk l)) (p ++ steps_in l) ≡ Held c → ⊥
    carried_bare p c held = move.goes p c (word_part s.table b l p ∙ held)

    -- what has a number in a variable then had it before
    pub carried_held : (g y : ℕ) (p : List Step) (c : ℕ) → word_in s.table (content s (moved_out s k m) [] (OfRoot (OfVariable g y))) p ≡ Held c
        → word_in s.table (content s m [] (OfRoot (OfVariable g y))) p ≡ Held c
    carried_held g y p c held =
        by_either (owner_before (seen s m rest leaks) after l (hand (length rest)) move (part (OfRoot (OfVariable g y)) p) c (word_root s.table b (OfVariable g y) p ∙ held))
        (λ (q, is, word). (absurd (hand_apart
        (sym (trunk_part (OfRoot (OfVariable g y)) p) ∙ ap trunk is ∙ trunk_part (hand (length rest)) q))))
        (λ stays. (sym (word_root s.table a (OfVariable g y) p) ∙ stays.word))

    -- beside the place a variable has what it had
    pub carried_beside : (g y : ℕ) (p : List Step) → (Below l (part (OfRoot (OfVariable g y)) p) → ⊥)
        → word_in s.table (content s (moved_out s k m) [] (OfRoot (OfVariable g y))) p ≡ word_in s.table (content s m [] (OfRoot (OfVariable g y))) p
    carried_beside g y p off =
        sym (word_root s.table b (OfVariable g y) p)
        ∙ move.off (part (OfRoot (OfVariable g y)) p) (λ there. variable_off g y p (length rest) there) off
        ∙ word_root s.table a (OfVariable g y) p

    -- what is gone in a variable stays so
    pub carried_gone : (g y : ℕ) (p : List Step) → word_in s.table (content s m [] (OfRoot (OfVariable g y))) p ≡ Gone
        → word_in s.table (content s (moved_out s k m) [] (OfRoot (OfVariable g y))) p ≡ Gone
    carried_gone g y p gone = by_either (below l (part (OfRoot (OfVariable g y)) p))
        (λ (q, is). (absurd (clean (along u q) (under_along u u q (under_itself u))
        (stand.known (along u q) (part l q) (named_along u q rooted) (reaches_along (seen s m rest leaks) u l q reaches)
        (subst (λ z. (seen s m rest leaks).word z ≡ Gone) is (word_root s.table a (OfVariable g y) p ∙ gone))))))
        (λ off. (carried_beside g y p off ∙ gone))

    -- the same for cells
    pub carried_held_cell : (n : ℕ) (p : List Step) (c : ℕ) → word_in s.table (content s (moved_out s k m) [] (OfCell n)) p ≡ Held c
        → word_in s.table (content s m [] (OfCell n)) p ≡ Held c
    carried_held_cell n p c held =
        by_either (owner_before (seen s m rest leaks) after l (hand (length rest)) move (part (OfCell n) p) c (word_cell b n p ∙ held))
        (λ (q, is, word). (absurd (cell_off n p (hand (length rest)) (OfHand (length rest)) refl (q, is))))
        (λ stays. (sym (word_cell a n p) ∙ stays.word))

    pub carried_beside_cell : (n : ℕ) (p : List Step) → (Below l (part (OfCell n) p) → ⊥)
        → word_in s.table (content s (moved_out s k m) [] (OfCell n)) p ≡ word_in s.table (content s m [] (OfCell n)) p
    carried_beside_cell n p off =
        sym (word_cell b n p)
        ∙ move.off (part (OfCell n) p) (λ there. cell_off n p (hand (length rest)) (OfHand (length rest)) refl there) off
        ∙ word_cell a n p

    pub carried_gone_cell : (n : ℕ) (p : List Step) → word_in s.table (content s m [] (OfCell n)) p ≡ Gone
        → word_in s.table (content s (moved_out s k m) [] (OfCell n)) p ≡ Gone
    carried_gone_cell n p gone = by_either (below l (part (OfCell n) p))
        (λ (q, is). (absurd (clean (along u q) (under_along u u q (under_itself u))
        (stand.known (along u q) (part l q) (named_along u q rooted) (reaches_along (seen s m rest leaks) u l q reaches)
        (subst (λ z. (seen s m rest leaks).word z ≡ Gone) is (word_cell a n p ∙ gone))))))
        (λ off. (carried_beside_cell n p off ∙ gone))

    after_is : after ≡ seen s (moved_out s k m) (got ∷ rest) leaks
    after_is =
        (λ j. seen_of s.table b (sym (put_count s m k.base (whole_slots m k (gone_at (access_offsets s.table k.of) (slots_of s m k)))) j)
        (λ n. sym (put_freed s m k.base (whole_slots m k (gone_at (access_offsets s.table k.of) (slots_of s m k))) n) j) leaks)

    goes_off : (f x : ℕ) → base_of u ≡ OfRoot (OfVariable f x) → Given (seen s m rest leaks) after u (Object (OfHand (length rest))) l (hand (length rest))
    goes_off f x base =
        given_apart (seen s m rest leaks) after u (Object (OfHand (length rest))) l (hand (length rest)) stand.owned move reaches refl (λ e. hand_differs base e)

    -- What is gone then is known elsewhere.
    pub carried_off : (f x : ℕ) → base_of u ≡ OfRoot (OfVariable f x)
        → ((w : Way) → before_it w → gone w) → ((p : List Step) → gone (along u p))
        → OwnersStand home v facts gone (seen s (moved_out s k m) (got ∷ rest) leaks)
    carried_off f x base more adds =
        subst (OwnersStand home v facts gone) after_is
        (moved_between home v facts before_it gone (seen s m rest leaks) after u (Object (OfHand (length rest))) l (hand (length rest))
        (goes_off f x base) stand rooted clean (λ w o off. more w o) (λ p is. adds p))

    -- a way from a variable that doesn't go on after the place reaches what it reached
    pub carried_off_stays : (f x : ℕ) → base_of u ≡ OfRoot (OfVariable f x) → (w : Way) (g y : ℕ) → base_of w ≡ OfRoot (OfVariable g y) → (Past u w → ⊥) → (n : ℕ)
        → Reaches (seen s m rest leaks) w (OfCell n) → Reaches (seen s (moved_out s k m) (got ∷ rest) leaks) w (OfCell n)
    carried_off_stays f x base w g y root off n reach =
        subst (λ z. Reaches z w (OfCell n)) after_is
        (keeps (seen s m rest leaks) after u (Object (OfHand (length rest))) l (hand (length rest)) (goes_off f x base) w (OfCell n) reach off
        (λ past. hand_differs root (base_under (Object (OfHand (length rest))) w (past_under (Object (OfHand (length rest))) w past))))

  -- What a hand has goes to a place that has no number.
  module _ (m : Memory) (got : Waiting) (rest : List Waiting) (leaks : List Leak) (facts : List Fact) (k : Place) (l : Loc) (u : Way)
      (stand : OwnersStand home v facts before_it (seen s m (got ∷ rest) leaks)) (kept : Kept s m (got ∷ rest)) (spot : Spot s m (got ∷ rest) k l)
      (reaches : Reaches (seen s m (got ∷ rest) leaks) u l) (owns : (content s m (got ∷ rest) (trunk l)).owns ≡ true)
      (long : length got.words ≡ words s.table k.of) (fits : Matches s.table got.of k.of)
      (bare : (p : List Step) (c : ℕ) → word_in s.table (content s m (got ∷ rest) (trunk l)) (p ++ steps_in l) ≡ Held c → ⊥) where
    abbrev full : Loc → Content
    full = content s m (got ∷ rest)

    abbrev given : Loc → Content
    given = content s (stored s k got.words m) rest

    change : Stores s.table (content s m (got ∷ rest)) (content s (stored s k got.words m) rest) (length rest) got l
    change = stores s settled m got rest kept k l spot long fits owns

    checks : Checks s.table (content s m (got ∷ rest) (trunk l)) (steps_in l) leaks leaks
    checks = record { keeps = λ n e. e; checks = λ p n h. absurd (bare p n h); only = λ n e. inl e }

    abbrev then_seen : View
    then_seen = seen_of s.table given (length m.cells) (λ n. (cell m n).freed) leaks

    goes_there : IsMove (seen s m (got ∷ rest) leaks) then_seen (hand (length rest)) l
    goes_there = stored_step s.table settled full given (length rest) got l (length m.cells) (λ n. (cell m n).freed) leaks leaks change checks

    -- what has a number in a variable then had it before, or is in the place
    pub carried_holds : (g y : ℕ) (p : List Step) (c : ℕ) → word_in s.table (content s (stored s k got.words m) [] (OfRoot (OfVariable g y))) p ≡ Held c
        → (word_in s.table (content s m [] (OfRoot (OfVariable g y))) p ≡ Held c) ⊎ ((q : List Step) × (part (OfRoot (OfVariable g y)) p ≡ part l q))
    carried_holds g y p c held =
        by_either (owner_before (seen s m (got ∷ rest) leaks) then_seen (hand (length rest)) l goes_there (part (OfRoot (OfVariable g y)) p) c
        (word_root s.table given (OfVariable g y) p ∙ held)) (λ (q, is, word). (inr (q, is))) (λ stays. (inl (sym (word_root s.table full (OfVariable g y) p) ∙ stays.word)))

    -- beside the place, what is gone in a variable stays so
    pub carried_gone_to : (g y : ℕ) (p : List Step) → (Below l (part (OfRoot (OfVariable g y)) p) → ⊥)
        → word_in s.table (content s m [] (OfRoot (OfVariable g y))) p ≡ Gone → word_in s.table (content s (stored s k got.words m) [] (OfRoot (OfVariable g y))) p ≡ Gone
    carried_gone_to g y p off gone =
        sym (word_root s.table given (OfVariable g y) p)
        ∙ goes_there.off (part (OfRoot (OfVariable g y)) p) off (λ there. variable_off g y p (length rest) there)
        ∙ word_root s.table full (OfVariable g y) p ∙ gone

    -- what has a number in a cell then had it before, or is in the place
    pub carried_holds_cell : (n : ℕ) (p : List Step) (c : ℕ) → word_in s.table (content s (stored s k got.words m) [] (OfCell n)) p ≡ Held c
        → (word_in s.table (content s m [] (OfCell n)) p ≡ Held c) ⊎ ((q : List Step) × (part (OfCell n) p ≡ part l q))
    carried_holds_cell n p c held =
        by_either (owner_before (seen s m (got ∷ rest) leaks) then_seen (hand (length rest)) l goes_there (part (OfCell n) p) c (word_cell given n p ∙ held)) (λ (q, is, word). (inr (q, is))) (λ stays. (inl (sym (word_cell full n p) ∙ stays.word)))

    pub carried_gone_cell_to : (n : ℕ) (p : List Step) → (Below l (part (OfCell n) p) → ⊥)
        → word_in s.table (content s m [] (OfCell n)) p ≡ Gone → word_in s.table (content s (stored s k got.words m) [] (OfCell n)) p ≡ Gone
    carried_gone_cell_to n p off gone =
        sym (word_cell given n p)
        ∙ goes_there.off (part (OfCell n) p) off (λ there. cell_off n p (hand (length rest)) (OfHand (length rest)) refl there)
        ∙ word_cell full n p ∙ gone

    then_is : then_seen ≡ seen s (stored s k got.words m) rest leaks
    then_is =
        (λ j. seen_of s.table given (sym (put_count s m k.base (whole_slots m k (fresh got.words))) j)
        (λ n. sym (put_freed s m k.base (whole_slots m k (fresh got.words)) n) j) leaks)

    goes_to : (f x : ℕ) → base_of u ≡ OfRoot (OfVariable f x) → Given (seen s m (got ∷ rest) leaks) then_seen (Object (OfHand (length rest))) u (hand (length rest)) l
    goes_to f x base =
        given_apart (seen s m (got ∷ rest) leaks) then_seen (Object (OfHand (length rest))) u (hand (length rest)) l stand.owned goes_there refl reaches
        (λ e. hand_differs base (sym e))

    -- What was gone there isn't any more.
    pub carried_to : (f x : ℕ) → base_of u ≡ OfRoot (OfVariable f x)
        → ((w : Way) → Under (Object (OfHand (length rest))) w → IsMovedBy home v facts w ⊎ before_it w → ⊥)
        → ((w : Way) → before_it w → (Under u w → ⊥) → gone w)
        → OwnersStand home v facts gone (seen s (stored s k got.words m) rest leaks)
    carried_to f x base hands stays =
        subst (OwnersStand home v facts gone) then_is
        (moved_between home v facts before_it gone (seen s m (got ∷ rest) leaks) then_seen (Object (OfHand (length rest))) u (hand (length rest)) l
        (goes_to f x base) stand tt hands stays
        (λ p is. absurd (stored_whole s.table settled full given (length rest) got l (length m.cells) (λ n. (cell m n).freed) leaks change p is)))

    -- a way from a variable that doesn't go on after the place reaches what it reached
    pub carried_to_stays : (f x : ℕ) → base_of u ≡ OfRoot (OfVariable f x) → (w : Way) (g y : ℕ) → base_of w ≡ OfRoot (OfVariable g y) → (Past u w → ⊥) → (n : ℕ)
        → Reaches (seen s m (got ∷ rest) leaks) w (OfCell n) → Reaches (seen s (stored s k got.words m) rest leaks) w (OfCell n)
    carried_to_stays f x base w g y root off n reach =
        subst (λ z. Reaches z w (OfCell n)) then_is
        (keeps (seen s m (got ∷ rest) leaks) then_seen (Object (OfHand (length rest))) u (hand (length rest)) l (goes_to f x base) w (OfCell n) reach
        (λ past. hand_differs root (base_under (Object (OfHand (length rest))) w (past_under (Object (OfHand (length rest))) w past))) off)
