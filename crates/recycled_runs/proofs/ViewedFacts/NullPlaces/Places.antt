-- What a place holds that a name leads to isn't gone, where no fact says so.
use Rattle.std.proofs.Common.{◌≡◌, refl, sym, ap, ◌∙◌, subst, ◌⊎◌, inl, inr, ℕ, zero, suc, ◌+◌, ◌-◌, ◌<◌, ◌≤◌, Bool, true, false, ◌&&◌, List, [], ◌∷◌, ◌++◌, length, get_or, arith}
use Rattle.std.proofs.lemmas.Bool.{cases_lt, false≢true, true≢false}
use Rattle.std.proofs.lemmas.List.{get_or_past}
use Rattle.machine.specs.spark_base.Lists.{Has}
use Rattle.machine.specs.type_definitions.declared.table.Shape.TheVariants as shape
use Rattle.machine.specs.type_definitions.Types.{shape_of, words}
use Rattle.machine.specs.flow_paths.Objects.{Typing}
use Rattle.machine.specs.Words.{access_offsets}
use Rattle.machine.specs.Words as machine
use Rattle.machine.specs.Memory.{Slot, Memory, Base, Place, OfVariable, OfCell, no_slot, slots_at, slots_of, at_number, as_gone, gone_at, moved_out}
use Rattle.machine.specs.States.{Waiting, Leak}
use Rattle.soundness.specs.OwnedWays.Ways.{Step, Loc, Way, Gone, Reaches, IsRooted, Known, part, along}
use Rattle.soundness.proofs.OwnedWays.Locations.{same_loc, reaches_along, named_along as rooted_along}
use Rattle.soundness.specs.PartOffsets.Parts.{type_in, offset_in, owns_one, is_leaf, IsSettled}
use Rattle.soundness.proofs.PartOffsets.Ranges.{leaf_outside, leaf_end, leaf_part}
use Rattle.soundness.proofs.PartOffsets.Leaves.{leaf_from}
use Rattle.soundness.specs.Seen.{Content, content, owner_at, trunk, steps_in, seen, is_view_formal}
use Rattle.soundness.specs.Changes.{Put}
use Rattle.soundness.specs.Typed.{Kept, loc_of, Spot}
use Rattle.soundness.proofs.Joined.{leaf_join, offset_join}
use Rattle.soundness.proofs.Contents.{word_yes, word_part}
use Rattle.soundness.proofs.Memories.{marked_length}
use Rattle.soundness.proofs.Steps.{matches_words, alike, plain_shape, room, taken_slots, put_at, put_off, same_there}
use Rattle.recycled_runs.proofs.ViewedFacts.NullPlaces.Memories.{NoneGone}
use Rattle.recycled_runs.proofs.ViewedFacts.NullPlaces.Only.{IsGone, OwnersGone, OnlyOwners}
use Rattle.soundness.proofs.Parted.{by_either}

pub is_false : (b : Bool) → (b ≡ true → ⊥) → b ≡ false
is_false true e = absurd (e refl)
is_false false e = refl

-- what is marked was gone, or is marked here
marked_from : (os : List ℕ) (xs : List Slot) (o : ℕ) → IsGone (gone_at os xs) o → IsGone xs o ⊎ Has os o
marked_from [] xs o gone = inl gone
marked_from (n ∷ rest) xs o gone = elim (marked_from rest (at_number n as_gone xs) o gone) [
  | inr has ↦ inr (inr has)
  | inl was ↦ one n xs o was
]
  where
    one : (n : ℕ) (xs : List Slot) (o : ℕ) → IsGone (at_number n as_gone xs) o → IsGone xs o ⊎ Has (n ∷ rest) o
    one n [] o was = inl was
    one zero (x ∷ xs) zero was = inr (inl refl)
    one zero (x ∷ xs) (suc o) was = inl was
    one (suc n) (x ∷ xs) zero was = inl was
    one (suc n) (x ∷ xs) (suc o) was = elim (one_below n xs o was) [ inl e ↦ inl e | inr e ↦ inr (inl (ap suc (sym e))) ]
      where
        one_below : (n : ℕ) (xs : List Slot) (o : ℕ) → IsGone (at_number n as_gone xs) o → IsGone xs o ⊎ (o ≡ n)
        one_below n [] o was = inl was
        one_below zero (x ∷ xs) zero was = inr refl
        one_below zero (x ∷ xs) (suc o) was = inl was
        one_below (suc n) (x ∷ xs) zero was = inl was
        one_below (suc n) (x ∷ xs) (suc o) was = elim (one_below n xs o was) [ inl e ↦ inl e | inr e ↦ inr (ap suc e) ]

same_base : (b : Base) (f x : ℕ) → loc_of b ≡ loc_of (OfVariable f x) → b ≡ OfVariable f x
same_base (OfVariable g y) f x e = cc
same_base (OfCell n) f x e = cc

module _ (s : Typing) (settled : IsSettled s.table) (m : Memory) (hands : List Waiting) where
  -- The words that own in a location aren't gone.
  abbrev pub IsWhole : Loc → Type 0
  IsWhole l =
      (p : List Step) → is_leaf s.table (content s m hands (trunk l)).of (p ++ steps_in l) ≡ true
      → (get_or (content s m hands (trunk l)).slots (offset_in s.table (content s m hands (trunk l)).of (p ++ steps_in l)) no_slot).gone ≡ false

  base_slots : (b : Base) → (content s m hands (loc_of b)).slots ≡ slots_at s m b
  base_slots (OfVariable f x) = refl
  base_slots (OfCell n) = refl

  -- then nothing that the place has is gone
  pub spot_whole : OnlyOwners s m → Kept s m hands → (k : Place) (l : Loc) → Spot s m hands k l → IsWhole l → NoneGone (slots_of s m k)
  spot_whole only kept k l spot clean i = by_either (cases_lt i (words s.table k.of))
      (λ lt. (is_false (get_or (slots_of s m k) i no_slot).gone (λ gone. inside lt gone)))
      (λ past. (ap (λ (x : Slot). x.gone) (get_or_past (slots_of s m k) i no_slot (let long = (taken_slots s settled m k space).0 in omega (arith, past, long)))))
    where
      space : k.at + words s.table k.of ≤ length (slots_at s m k.base)
      space = room s settled m hands kept k l spot

      c : Content
      c = content s m hands (trunk l)

      same : c.slots ≡ slots_at s m k.base
      same = ap (λ z. (content s m hands z).slots) spot.base ∙ base_slots k.base

      inside : i < words s.table k.of → IsGone (slots_of s m k) i → ⊥
      inside lt gone =
          let at_base : IsGone (slots_at s m k.base) (k.at + i) = ap (λ (x : Slot). x.gone) (sym ((taken_slots s settled m k space).1 i lt)) ∙ gone in
          let there : IsGone c.slots (k.at + i) = subst (λ z. IsGone z (k.at + i)) (sym same) at_base in
          let own : OwnersGone s.table c =
          subst (λ z. OwnersGone s.table (content s m hands z)) (sym spot.base) (subst (OwnersGone s.table) (same_there s m [] hands k.base) (only.0 k.base)) in
          let found = own (k.at + i) there in
          let at = found.2 in
          let start = spot.at in
          let long = matches_words s.table settled k.of (type_in s.table c.of (steps_in l)) spot.of in
          by_either (leaf_outside s.table settled c.of found.0 (steps_in l) found.1 spot.there (λ r e. (
          let whole = clean r (subst (λ z. is_leaf s.table c.of z ≡ true) e found.1) in
          let no : true ≡ false = sym there ∙ ap (λ o. (get_or c.slots o no_slot).gone) (sym at ∙ ap (offset_in s.table c.of) e) ∙ whole in absurd (true≢false no)))) (λ before. (absurd (omega (arith, before, at, start)))) (λ behind. (absurd (omega (arith, behind, at, start, long, lt))))

  -- ---- what is known not to be gone

  -- a place whose type owns nothing
  pub plain_whole : (k : Place) (l : Loc) → Spot s m hands k l → ((p : List Step) → is_leaf s.table k.of p ≡ false) → IsWhole l
  plain_whole k l spot none p leaf =
      let c : Content = content s m hands (trunk l) in
      let u : ℕ = type_in s.table c.of (steps_in l) in
      let below : is_leaf s.table u p ≡ true = sym (leaf_join s.table c.of (steps_in l) p spot.there) ∙ leaf in
      let mine : is_leaf s.table k.of p ≡ true = (alike s.table settled k.of u spot.of).leaf p ∙ below in
      let no : true ≡ false = sym mine ∙ none p in absurd (true≢false no)

  module _ (leaks : List Leak) (moved : Way → Type 0) (known : Known (seen s m hands leaks) moved) (w : Way) (l : Loc) (rooted : IsRooted w)
      (reaches : Reaches (seen s m hands leaks) w l) (owns : (content s m hands (trunk l)).owns ≡ true) where
    known_whole : (p : List Step) → (moved (along w p) → ⊥) → is_leaf s.table (content s m hands (trunk l)).of (p ++ steps_in l) ≡ true
        → (get_or (content s m hands (trunk l)).slots (offset_in s.table (content s m hands (trunk l)).of (p ++ steps_in l)) no_slot).gone ≡ false
    known_whole p clean leaf =
        is_false _ (λ gone. clean (known (along w p) (part l p) (rooted_along w p rooted) (reaches_along (seen s m hands leaks) w l p reaches)
        (word_part s.table (content s m hands) l p ∙ word_yes s.table (content s m hands (trunk l)) (p ++ steps_in l) owns leaf ∙ marked _ _ gone)))
      where
        marked : (x : machine.Word) (g : Bool) → g ≡ true → owner_at x g ≡ Gone
        marked x true e = refl
        marked x false e = absurd (false≢true e)

    -- a place of which no part was moved
    pub unmoved_whole : ((p : List Step) → moved (along w p) → ⊥) → IsWhole l
    unmoved_whole clean p leaf = known_whole p (clean p) leaf

    -- an access value that wasn't moved: nothing is in it
    pub access_whole : (k : Place) (d : ℕ) (c : Bool) → Spot s m hands k l → shape_of s.table k.of ≡ shape.Access d c true → (moved w → ⊥) → IsWhole l
    access_whole k d constant spot is clean p leaf =
        let c : Content = content s m hands (trunk l) in
        let type : shape_of s.table (type_in s.table c.of (steps_in l)) ≡ shape.Access d constant true = elim spot.of [
          | inl same ↦ sym same ∙ is
          | inr both ↦ absurd (let none : true ≡ false = sym (ap owns_one is) ∙ (plain_shape (shape_of s.table k.of) both.0).2 in true≢false none)
        ] in
        let own : is_leaf s.table c.of (steps_in l) ≡ true = both_true _ _ spot.there (ap owns_one type) in
        let end : p ≡ [] = leaf_end s.table settled c.of p (steps_in l) own (leaf_part s.table settled c.of (p ++ steps_in l) leaf) in
        known_whole p (subst (λ z. moved (along w z) → ⊥) (sym end) clean) leaf
      where
        both_true : (a b : Bool) → a ≡ true → b ≡ true → a && b ≡ true
        both_true a b e f = ap (λ x. x && b) e ∙ f

  -- ---- what a place has is taken

  -- a place that isn't in a formal that owns nothing, if its type owns
  pub moved_only : OnlyOwners s m → Kept s m hands → (k : Place) (l : Loc) → Spot s m hands k l
      → ((p : List Step) → is_leaf s.table k.of p ≡ true → (f x : ℕ) → k.base ≡ OfVariable f x → is_view_formal s x ≡ false) → OnlyOwners s (moved_out s k m)
  moved_only only kept k l spot owner = (
    λ b. elim (same_loc (loc_of b) (loc_of k.base)) [
      | inr ne ↦ subst (OwnersGone s.table) (sym (put_off s m [] k marks (loc_of b) (own_trunk b) ne)) (only.0 b)
      | inl e ↦ subst (λ z. OwnersGone s.table (content s (moved_out s k m) [] z)) (sym e) mine
    ],
    λ f x o gone. elim (same_loc (loc_of (OfVariable f x)) (loc_of k.base)) [
      | inr ne ↦ only.1 f x o
          (subst (λ (z : Content). IsGone z.slots o) (put_off s m [] k marks (loc_of (OfVariable f x)) (own_trunk (OfVariable f x)) ne) gone)
      | inl e ↦ mine_owner f x (same_base k.base f x (sym e)) o (subst (λ z. IsGone (content s (moved_out s k m) [] z).slots o) e gone)
    ],
  )
    where
      marks : List Slot
      marks = gone_at (access_offsets s.table k.of) (slots_of s m k)

      own_trunk : (b : Base) → trunk (loc_of b) ≡ loc_of b
      own_trunk (OfVariable f x) = refl
      own_trunk (OfCell n) = refl

      space : k.at + words s.table k.of ≤ length (slots_at s m k.base)
      space = room s settled m hands kept k l spot

      some : length (slots_of s m k) ≡ words s.table k.of
      some = (taken_slots s settled m k space).0

      many : length marks ≡ words s.table k.of
      many = marked_length (access_offsets s.table k.of) (slots_of s m k) ∙ some

      before : Content
      before = content s m [] (loc_of k.base)

      after : Content
      after = content s (moved_out s k m) [] (loc_of k.base)

      put : Put before after k.at marks
      put = put_at s m [] k marks spot.made (let n = many in let r = space in omega (arith, n, r))

      Owner : ℕ → ℕ → Type 0
      Owner t o = (p : List Step) × (is_leaf s.table t p ≡ true) × (offset_in s.table t p ≡ o)

      type_before : before.of ≡ (content s m hands (trunk l)).of
      type_before = ap (λ (z : Content). z.of) (same_there s m [] hands k.base) ∙ ap (λ z. (content s m hands z).of) (sym spot.base)

      -- a word that is marked now
      new : (i : ℕ) → Has (access_offsets s.table k.of) i → Owner before.of (k.at + i)
      new i has =
          let c : Content = content s m hands (trunk l) in
          let u : ℕ = type_in s.table c.of (steps_in l) in
          let leaf = leaf_from s.table settled k.of i has in
          let like = alike s.table settled k.of u spot.of in
          let p : List Step = leaf.0 in
          let at : offset_in s.table u p ≡ i = sym (like.at p leaf.1) ∙ leaf.2 in
          let start = spot.at in
          let join = offset_join s.table c.of (steps_in l) p in
          subst (λ t. Owner t (k.at + i)) (sym type_before) (
            p ++ steps_in l,
            leaf_join s.table c.of (steps_in l) p spot.there ∙ sym (like.leaf p) ∙ leaf.1,
            omega (arith, at, start, join),
          )

      old : (o : ℕ) → IsGone before.slots o → Owner before.of o
      old o gone = only.0 k.base o gone

      inside : (i : ℕ) → i < length marks → IsGone after.slots (k.at + i) → Owner before.of (k.at + i)
      inside i lt gone = elim (marked_from (access_offsets s.table k.of) (slots_of s m k) i (ap (λ (x : Slot). x.gone) (sym (put.inside i lt)) ∙ gone)) [
        | inr has ↦ new i has
        | inl was ↦ old (k.at + i) (
            ap (λ z. (get_or z (k.at + i) no_slot).gone) (ap (λ (z : Content). z.slots) (same_there s m [] hands k.base) ∙ base_slots k.base)
            ∙ ap (λ (x : Slot). x.gone) (sym ((taken_slots s settled m k space).1 i (let n = many in omega (arith, n, lt)))) ∙ was)
      ]

      mine : OwnersGone s.table after
      mine o gone = subst (λ t. Owner t o) (sym put.of) (elim (cases_lt o k.at) [
        | inl lt ↦ old o (ap (λ (x : Slot). x.gone) (sym (put.outside o (inl lt))) ∙ gone)
        | inr ge ↦ elim (cases_lt o (k.at + length marks)) [
          | inr more ↦ old o (ap (λ (x : Slot). x.gone) (sym (put.outside o (inr more))) ∙ gone)
          | inl lt ↦ (
              let i : ℕ = o - k.at in
              let is : k.at + i ≡ o = omega (arith, ge) in
              subst (Owner before.of) is (inside i (omega (arith, lt, ge, is)) (subst (IsGone after.slots) (sym is) gone)))
        ]
      ])

      -- in a variable, only one of an owner
      mine_owner : (f x : ℕ) → k.base ≡ OfVariable f x → (o : ℕ) → IsGone after.slots o → is_view_formal s x ≡ false
      mine_owner f x at o gone = elim (cases_lt o k.at) [
        | inl lt ↦ before_owner o (ap (λ (x : Slot). x.gone) (sym (put.outside o (inl lt))) ∙ gone)
        | inr ge ↦ elim (cases_lt o (k.at + length marks)) [
          | inr more ↦ before_owner o (ap (λ (x : Slot). x.gone) (sym (put.outside o (inr more))) ∙ gone)
          | inl lt ↦ (
              let i : ℕ = o - k.at in
              let is : k.at + i ≡ o = omega (arith, ge) in
              inside_owner i (omega (arith, lt, ge, is)) (subst (IsGone after.slots) (sym is) gone))
        ]
      ]
        where
          before_owner : (o : ℕ) → IsGone before.slots o → is_view_formal s x ≡ false
          before_owner o was = only.1 f x o (subst (λ b. IsGone (content s m [] (loc_of b)).slots o) at was)

          inside_owner : (i : ℕ) → i < length marks → IsGone after.slots (k.at + i) → is_view_formal s x ≡ false
          inside_owner i lt gone = elim (marked_from (access_offsets s.table k.of) (slots_of s m k) i (ap (λ (x : Slot). x.gone) (sym (put.inside i lt)) ∙ gone)) [
            | inr has ↦ (let leaf = leaf_from s.table settled k.of i has in owner leaf.0 leaf.1 f x at)
            | inl was ↦ before_owner (k.at + i) (
                ap (λ z. (get_or z (k.at + i) no_slot).gone) (ap (λ (z : Content). z.slots) (same_there s m [] hands k.base) ∙ base_slots k.base)
                ∙ ap (λ (x : Slot). x.gone) (sym ((taken_slots s settled m k space).1 i (let n = many in omega (arith, n, lt)))) ∙ was)
          ]
