-- What a place has is leaked by the leak checks of the place, and the machine marks it as gone.
use Rattle.std.proofs.Common.{[], ◌≡◌, refl, sym, ap, ◌∙◌, subst, ◌⊎◌, inl, inr, ℕ, suc, ◌+◌, ◌<◌, Bool, true, false, List, ◌++◌, take, drop, length, get_or, arith}
use Rattle.std.proofs.lemmas.Bool.{false≢true}
use Rattle.machine.specs.spark_base.declared.position.Pos.{Pos}
use Rattle.machine.specs.type_definitions.Types.{words}
use Rattle.machine.specs.flow_paths.Objects.{Typing, object_at}
use Rattle.machine.specs.Words.{access_offsets}
use Rattle.machine.specs.Words as machine
use Rattle.machine.specs.Memory.{Slot, Memory, Place, no_slot, slots_of, slots_at, gone_at, moved_out, fresh, declared}
use Rattle.machine.specs.Calls.{checked_at}
use Rattle.machine.specs.States.{Waiting, Leak}
use Rattle.soundness.specs.OwnedWays.Ways.{Empty, Step, Loc, Gone, Held, Below, OfVariable, OfHand, OfRoot, OfCell, Inside, IsSame, part}
use Rattle.soundness.proofs.OwnedWays.Locations.{same_loc}
use Rattle.soundness.specs.PartOffsets.Parts.{type_in, offset_in, is_leaf, IsSettled}
use Rattle.soundness.proofs.PartOffsets.Ranges.{leaf_outside}
use Rattle.soundness.proofs.PartOffsets.Leaves.{leaf_at}
use Rattle.soundness.specs.Seen.{Content, content, trunk, steps_in, word_in, owner_at, owner_word, seen}
use Rattle.soundness.specs.Changes.{Alike, Put, Checks, leaks_at}
use Rattle.soundness.specs.Typed.{Kept, Spot, loc_of}
use Rattle.soundness.proofs.Joined.{offset_join, leaf_join, trunk_trunk, below_from}
use Rattle.soundness.proofs.Contents.{bool_cases, word_yes, word_no, shown, word_part, leaf_below, checks_made}
use Rattle.soundness.proofs.Memories.{marked_gone, marked_length, put_same, put_other}
use Rattle.soundness.proofs.Defaults.{blank_word, none_default}
use Rattle.soundness.proofs.Steps.{content_slots}
use Rattle.soundness.proofs.Steps.{put_at, put_off, put_count, put_freed, alike, matches_words, taken_slots, room}
use Rattle.viewed_steps.proofs.Emptied.{IsEmptied}
use Rattle.viewed_steps.proofs.Constructors.{is_gone_word}
use Rattle.soundness.proofs.Parted.{empty_held, empty_gone}

module _ (s : Typing) (settled : IsSettled s.table) (m : Memory) (hands : List Waiting) (leaks : List Leak) (k : Place) (l : Loc)
    (kept : Kept s m hands) (spot : Spot s m hands k l) (owns : (content s m hands (trunk l)).owns ≡ true) where
  abbrev a : Loc → Content
  a = content s m hands

  abbrev b : Loc → Content
  b = content s (moved_out s k m) hands

  abbrev marks : List Slot
  marks = gone_at (access_offsets s.table k.of) (slots_of s m k)

  some : length (slots_of s m k) ≡ words s.table k.of
  some = (taken_slots s settled m k (room s settled m hands kept k l spot)).0

  many : length marks ≡ words s.table k.of
  many = marked_length (access_offsets s.table k.of) (slots_of s m k) ∙ some

  like : Alike s.table k.of (type_in s.table (content s m hands (trunk l)).of (steps_in l))
  like = alike s.table settled k.of (type_in s.table (content s m hands (trunk l)).of (steps_in l)) spot.of

  there_put : Put (a (loc_of k.base)) (b (loc_of k.base)) k.at marks
  there_put = put_at s m hands k marks spot.made (let space = room s settled m hands kept k l spot in let long = many in omega (arith, space, long))

  here : Put (a (trunk l)) (b (trunk l)) (offset_in s.table (content s m hands (trunk l)).of (steps_in l)) marks
  here =
      subst (λ z. Put (a z) (b z) (offset_in s.table (content s m hands z).of (steps_in l)) marks) (sym spot.base)
      (subst (λ o. Put (a (loc_of k.base)) (b (loc_of k.base)) o marks) (spot.at ∙ ap (λ z. offset_in s.table (content s m hands z).of (steps_in l)) spot.base) there_put)

  -- a word in the place that owns, by the type of the place
  inner : (p : List Step) → is_leaf s.table (content s m hands (trunk l)).of (p ++ steps_in l) ≡ true
      → (is_leaf s.table k.of p ≡ true)
      × (offset_in s.table k.of p ≡ offset_in s.table (type_in s.table (content s m hands (trunk l)).of (steps_in l)) p)
      × (offset_in s.table (type_in s.table (content s m hands (trunk l)).of (steps_in l)) p < words s.table k.of)
  inner p leaf =
      let u : ℕ = type_in s.table (content s m hands (trunk l)).of (steps_in l) in
      let there : is_leaf s.table u p ≡ true = sym (leaf_join s.table (content s m hands (trunk l)).of (steps_in l) p spot.there) ∙ leaf in
      let mine : is_leaf s.table k.of p ≡ true = like.leaf p ∙ there in
      let less = leaf_below s.table settled u p there in
      let long = matches_words s.table settled k.of u spot.of in
      (mine, like.at p mine, omega (arith, less, long))

  marked : (p : List Step) → is_leaf s.table (content s m hands (trunk l)).of (p ++ steps_in l) ≡ true
      → (get_or (b (trunk l)).slots (offset_in s.table (content s m hands (trunk l)).of (p ++ steps_in l)) no_slot).gone ≡ true
  marked p leaf =
      let u : ℕ = type_in s.table (content s m hands (trunk l)).of (steps_in l) in
      let mine = inner p leaf in
      ap (λ (x : Slot). x.gone)
      (ap (λ o. get_or (b (trunk l)).slots o no_slot) (offset_join s.table (content s m hands (trunk l)).of (steps_in l) p)
      ∙ here.inside (offset_in s.table u p) (let lt = mine.2 in let long = many in omega (arith, lt, long)))
      ∙ ap (λ o. (get_or marks o no_slot).gone) (sym mine.1)
      ∙ marked_gone (access_offsets s.table k.of) (slots_of s m k) (offset_in s.table k.of p) (leaf_at s.table settled k.of p mine.0)
      (let lt = mine.2 in let e = mine.1 in let n = some in omega (arith, lt, e, n))

  outside : (p : List Step) → is_leaf s.table (content s m hands (trunk l)).of p ≡ true → ((r : List Step) → p ≡ r ++ steps_in l → ⊥)
      → get_or (b (trunk l)).slots (offset_in s.table (content s m hands (trunk l)).of p) no_slot
      ≡ get_or (a (trunk l)).slots (offset_in s.table (content s m hands (trunk l)).of p) no_slot
  outside p leaf off =
      let long = matches_words s.table settled k.of (type_in s.table (content s m hands (trunk l)).of (steps_in l)) spot.of in
      let out = leaf_outside s.table settled (content s m hands (trunk l)).of p (steps_in l) leaf spot.there off in
      here.outside (offset_in s.table (content s m hands (trunk l)).of p) (elim out [ inl lt ↦ inl lt | inr le ↦ inr (let size = many in omega (arith, le, size, long)) ])

  other : (z : Loc) → trunk z ≡ z → (z ≡ trunk l → ⊥) → b z ≡ a z
  other z t ne = put_off s m hands k marks z t (λ e. ne (e ∙ sym spot.base))

  gone_word : (w : machine.Word) (g : Bool) → g ≡ true → owner_at w g ≡ Gone
  gone_word w true e = refl
  gone_word w false e = absurd (false≢true e)

  off : (z : Loc) → (Below l z → ⊥) → word_in s.table (b (trunk z)) (steps_in z) ≡ word_in s.table (a (trunk z)) (steps_in z)
  off z apart = elim (same_loc (trunk z) (trunk l)) [
    | inl e ↦ ap (λ y. word_in s.table (b y) (steps_in z)) e
        ∙ left (steps_in z) (λ r is. apart (r, below_from l z r e is)) (bool_cases (is_leaf s.table (a (trunk l)).of (steps_in z)))
        ∙ sym (ap (λ y. word_in s.table (a y) (steps_in z)) e)
    | inr ne ↦ ap (λ c. word_in s.table c (steps_in z)) (other (trunk z) (trunk_trunk z) ne)
  ]
    where
      left : (p : List Step) → ((r : List Step) → p ≡ r ++ steps_in l → ⊥)
          → (is_leaf s.table (a (trunk l)).of p ≡ true) ⊎ (is_leaf s.table (a (trunk l)).of p ≡ false)
          → word_in s.table (b (trunk l)) p ≡ word_in s.table (a (trunk l)) p
      left p out (inl holds) =
          word_yes s.table (b (trunk l)) p (here.owns ∙ owns) (ap (λ t. is_leaf s.table t p) here.of ∙ holds)
          ∙ ap (λ t. owner_word (get_or (b (trunk l)).slots (offset_in s.table t p) no_slot)) here.of
          ∙ ap owner_word (outside p holds out)
          ∙ sym (word_yes s.table (a (trunk l)) p owns holds)
      left p out (inr isnt) =
          word_no s.table (b (trunk l)) p (ap (λ t. is_leaf s.table t p) here.of ∙ isnt) ∙ sym (word_no s.table (a (trunk l)) p isnt)

  goes : (p : List Step) (n : ℕ) → word_in s.table (b (trunk l)) (p ++ steps_in l) ≡ Held n → ⊥
  goes p n e =
      let is_shown = shown s.table (b (trunk l)) (p ++ steps_in l) (Held n) empty_held e in
      let leaf : is_leaf s.table (a (trunk l)).of (p ++ steps_in l) ≡ true = ap (λ t. is_leaf s.table t (p ++ steps_in l)) (sym here.of) ∙ is_shown.leaf in
      let gone = gone_word _ _ (marked p leaf) in
      let at = ap (λ t. owner_word (get_or (b (trunk l)).slots (offset_in s.table t (p ++ steps_in l)) no_slot)) here.of in
      let is : Held n ≡ Gone = sym is_shown.slot ∙ at ∙ gone in absurd (false≢true (ap is_gone_word is))

  -- the leak checks of the place fail for what it has
  pub place_checks : (pos : Pos) → Checks s.table (content s m hands (trunk l)) (steps_in l) leaks (leaks ++ leaks_at s pos m k)
  place_checks pos =
      subst (λ z. Checks s.table (content s m hands (trunk l)) (steps_in l) leaks (leaks ++ z)) same_leaks
      (checks_made s.table settled (content s m hands (trunk l)) (steps_in l) k.of pos leaks spot.there owns like)
    where
      same_leaks : checked_at pos (offset_in s.table (content s m hands (trunk l)).of (steps_in l)) (content s m hands (trunk l)).slots (access_offsets s.table k.of)
          ≡ leaks_at s pos m k
      same_leaks =
          ap (λ o. checked_at pos o (content s m hands (trunk l)).slots (access_offsets s.table k.of)) (sym spot.at)
          ∙ ap (λ z. checked_at pos k.at (content s m hands z).slots (access_offsets s.table k.of)) spot.base
          ∙ ap (λ z. checked_at pos k.at z (access_offsets s.table k.of)) (content_slots s m hands k.base spot.made)

  -- Where all that the place has is leaked, owners see it emptied.
  pub vacated : (found : List Leak) → Checks s.table (content s m hands (trunk l)) (steps_in l) leaks found
      → IsEmptied (seen s m hands leaks) (seen s (moved_out s k m) hands found) l
  vacated found checks = record {
    made = ap suc (put_count s m k.base (slots_with marks));
    freed = λ c. put_freed s m k.base (slots_with marks) c;
    off = off;
    goes = λ p c h. goes p c (sym (word_part s.table b l p) ∙ h);
    keeps = checks.keeps;
    checks = λ p c h. checks.checks p c (sym (word_part s.table a l p) ∙ h);
    only = λ c h. elim (checks.only c h) [
      | inl old ↦ inl old
      | inr y ↦ inr (y.0, word_part s.table a l y.0 ∙ y.1)
    ];
  }
    where
      slots_with : List Slot → List Slot
      slots_with slots = take k.at (slots_at s m k.base) ++ slots ++ drop (k.at + length slots) (slots_at s m k.base)

  -- what was gone there is so still
  pub vacated_gone : (found : List Leak) (p : List Step) → (seen s m hands leaks).word (part l p) ≡ Gone → (seen s (moved_out s k m) hands found).word (part l p) ≡ Gone
  vacated_gone found p gone =
      let is_shown = shown s.table (a (trunk l)) (p ++ steps_in l) Gone empty_gone (sym (word_part s.table a l p) ∙ gone) in
      word_part s.table b l p
      ∙ word_yes s.table (b (trunk l)) (p ++ steps_in l) (here.owns ∙ owns) (ap (λ t. is_leaf s.table t (p ++ steps_in l)) here.of ∙ is_shown.leaf)
      ∙ ap (λ t. owner_word (get_or (b (trunk l)).slots (offset_in s.table t (p ++ steps_in l)) no_slot)) here.of
      ∙ gone_word _ _ (marked p is_shown.leaf)

-- A variable that has nothing gets what an object has without a value: owners see no change.
pub default_same : (s : Typing) (m : Memory) (hands : List Waiting) (leaks : List Leak) (f x : ℕ)
    → ((p : List Step) → word_in s.table (content s m [] (OfRoot (OfVariable f x))) p ≡ Empty)
    → IsSame (seen s m hands leaks) (seen s (declared f x (machine.default s.table (object_at s x).of) m) hands leaks)
default_same s m hands leaks f x blank = record { word = λ l. by_trunk l (steps_in l); made = refl; freed = λ n. refl; leaked = λ n. refl }
  where
    by_trunk : (l : Loc) (p : List Step)
        → word_in s.table (content s (declared f x (machine.default s.table (object_at s x).of) m) hands (trunk l)) p ≡ word_in s.table (content s m hands (trunk l)) p
    by_trunk (OfRoot (OfVariable g y)) p = elim (same_loc (OfRoot (OfVariable f x)) (OfRoot (OfVariable g y))) [
      | inr ne ↦ ap (λ z. word_in s.table (record { of = (object_at s y).of; slots = z; owns = (content s m hands (OfRoot (OfVariable g y))).owns }) p)
          (put_other s f x g y (λ e. ne (ap OfRoot e)) (fresh (machine.default s.table (object_at s x).of)) m.variables)
      | inl e ↦ subst (λ z. word_in s.table (content s (declared f x (machine.default s.table (object_at s x).of) m) hands z) p ≡ word_in s.table (content s m hands z) p) e
          (blank_word s.table (content s (declared f x (machine.default s.table (object_at s x).of) m) hands (OfRoot (OfVariable f x)))
          (machine.default s.table (object_at s x).of) (put_same s f x (fresh (machine.default s.table (object_at s x).of)) m.variables)
          (none_default s.table (object_at s x).of) p ∙ sym (blank p))
    ]
    by_trunk (OfRoot (OfHand h)) p = refl
    by_trunk (OfCell c) p = refl
    by_trunk (Inside l i) p = by_trunk l p
