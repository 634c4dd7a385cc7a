-- A part of an aggregate: the latest value in hand goes after the words of the hand below.
use Rattle.std.proofs.Common.{◌≡◌, refl, sym, ap, ◌∙◌, subst, ◌⊎◌, inl, inr, ℕ, suc, ◌+◌, ◌<◌, ◌≤◌, true, false, List, [], ◌∷◌, ◌++◌, length, get_or, arith, length-append}
use Rattle.std.proofs.lemmas.List.{length-map, get_or_past, get_or_append_left, get_or-append-add}
use Rattle.std.proofs.lemmas.Bool.{false≢true}
use Rattle.machine.specs.place_names.declared.fact.Fact.{Fact}
use Rattle.machine.specs.type_definitions.Types.{words}
use Rattle.machine.specs.flow_paths.Objects.{Typing}
use Rattle.machine.specs.Words as machine
use Rattle.machine.specs.Memory.{Memory, cell, fresh, no_slot}
use Rattle.machine.specs.States.{Waiting, Leak}
use Rattle.soundness.specs.OwnedWays.Ways.{Step, OfVariable, OfHand, Loc, OfRoot, OfCell, Inside, Way, Object, Into, Empty, Held, Sound, Spares}
use Rattle.soundness.proofs.OwnedWays.Assigned.{handed}
use Rattle.soundness.specs.PartOffsets.Parts.{type_in, offset_in, has_part, IsSettled}
use Rattle.soundness.specs.Seen.{Content, in_hand, content, trunk, word_in, owner_word, seen}
use Rattle.soundness.specs.Changes.{Alike, Put, hand, Checks, Stores}
use Rattle.soundness.proofs.Joined.{not_inside, offset_join}
use Rattle.soundness.proofs.Contents.{shown, stored_step, stored_whole}
use Rattle.soundness.proofs.Steps.{hand_top, hand_past, hand_below}
use Rattle.soundness.proofs.Constructors.{is_held_word}
use Rattle.soundness.proofs.Parted.{empty_held, loc_hands}

pub fresh_append : (a b : List machine.Word) → fresh (a ++ b) ≡ fresh a ++ fresh b
fresh_append [] b = refl
fresh_append (w ∷ a) b = ap (λ z. record { word = w; gone = false } ∷ z) (fresh_append a b)

pub fresh_length : (a : List machine.Word) → length (fresh a) ≡ length a
fresh_length a = length-map a (λ w. record { word = w; gone = false })

module _ (s : Typing) (settled : IsSettled s.table) (m : Memory) (u t : ℕ) (ws acc : List machine.Word) (rest : List Waiting) (leaks : List Leak) (step : Step)
    (has : has_part s.table t (step ∷ []) ≡ true) (offset : offset_in s.table t (step ∷ []) ≡ length acc)
    (fits : length ws ≡ words s.table (type_in s.table t (step ∷ []))) (like : Alike s.table u (type_in s.table t (step ∷ []))) where
  abbrev value : Waiting
  value = record { of = u; words = ws }

  abbrev part : Waiting
  part = record { of = t; words = acc }

  abbrev whole : Waiting
  whole = record { of = t; words = acc ++ ws }

  at_part : content s m (value ∷ part ∷ rest) (hand (length rest)) ≡ in_hand part
  at_part = ap in_hand (hand_below value (part ∷ rest) (length rest) (λ e. absurd (omega (arith, e))) ∙ hand_top part rest)

  at_whole : content s m (whole ∷ rest) (hand (length rest)) ≡ in_hand whole
  at_whole = ap in_hand (hand_top whole rest)

  raw : Put (in_hand part) (in_hand whole) (length acc) (fresh ws)
  raw = record {
    of = refl;
    owns = refl;
    outside = λ o out. ap (λ z. get_or z o no_slot) (fresh_append acc ws) ∙ by_side o out;
    inside = λ i lt. ap (λ z. get_or z (length acc + i) no_slot) (fresh_append acc ws)
        ∙ ap (λ n. get_or (fresh acc ++ fresh ws) (n + i) no_slot) (sym (fresh_length acc))
        ∙ get_or-append-add (fresh acc) (fresh ws) i no_slot;
  }
    where
      by_side : (o : ℕ) → (o < length acc) ⊎ (length acc + length (fresh ws) ≤ o) → get_or (fresh acc ++ fresh ws) o no_slot ≡ get_or (fresh acc) o no_slot
      by_side o (inl lt) = get_or_append_left (fresh acc) (fresh ws) no_slot o (let e = fresh_length acc in omega (arith, lt, e))
      by_side o (inr le) =
          let e = fresh_length acc in
          let both : length (fresh acc ++ fresh ws) ≡ length (fresh acc) + length (fresh ws) = length-append (fresh acc) (fresh ws) in
          get_or_past (fresh acc ++ fresh ws) o no_slot (omega (arith, le, e, both)) ∙ sym (get_or_past (fresh acc) o no_slot (omega (arith, le, e)))

  joins : Stores s.table (content s m (value ∷ part ∷ rest)) (content s m (whole ∷ rest)) (length (part ∷ rest)) value (Inside (hand (length rest)) step)
  joins = record {
    before = ap in_hand (hand_top value (part ∷ rest));
    behind = ap in_hand (hand_past (whole ∷ rest) (length (part ∷ rest)) (omega arith));
    other = other;
    put = subst (λ z. Put z (content s m (whole ∷ rest) (hand (length rest))) (offset_in s.table z.of (step ∷ [])) (fresh ws)) (sym at_part)
        (subst (λ z. Put (in_hand part) z (offset_in s.table t (step ∷ [])) (fresh ws)) (sym at_whole)
        (subst (λ o. Put (in_hand part) (in_hand whole) o (fresh ws)) (sym offset) raw));
    there = ap (λ (c : Content). has_part s.table c.of (step ∷ [])) at_part ∙ has;
    owns = ap (λ (c : Content). c.owns) at_part;
    fits = fits ∙ sym (ap (λ (c : Content). words s.table (type_in s.table c.of (step ∷ []))) at_part);
    alike = subst (λ z. Alike s.table u (type_in s.table z (step ∷ []))) (sym (ap (λ (c : Content). c.of) at_part)) like;
    apart = λ e. (let same : length rest ≡ suc (length rest) = loc_hands e in absurd (omega (arith, same)));
  }
    where
      other : (k : Loc) → trunk k ≡ k → (k ≡ hand (length rest) → ⊥) → (k ≡ hand (length (part ∷ rest)) → ⊥)
          → content s m (whole ∷ rest) k ≡ content s m (value ∷ part ∷ rest) k
      other (OfRoot (OfVariable f x)) is ne off = refl
      other (OfRoot (OfHand h)) is ne off =
          ap in_hand (hand_below whole rest h (λ e. ne (ap hand e))
          ∙ sym (hand_below value (part ∷ rest) h (λ e. off (ap hand e)) ∙ hand_below part rest h (λ e. ne (ap hand e))))
      other (OfCell c) is ne off = refl
      other (Inside l i) is ne off = absurd (not_inside l l i is)

  -- nothing was there before
  nothing : (p : List Step) (n : ℕ) → word_in s.table (in_hand part) (p ++ step ∷ []) ≡ Held n → ⊥
  nothing p n e =
      let shows = shown s.table (in_hand part) (p ++ step ∷ []) (Held n) empty_held e in
      let at = offset_join s.table t (step ∷ []) p in
      let long = fresh_length acc in
      let past = get_or_past (fresh acc) (offset_in s.table t (p ++ step ∷ [])) no_slot (omega (arith, at, offset, long)) in
      let is : Empty ≡ Held n = sym (ap owner_word past) ∙ shows.slot in absurd (false≢true (ap is_held_word is))

  pub joined_sound : (at_home : ℕ → ℕ) (other : Way → Type 0) (facts : List Fact) → ((h : ℕ) → Spares other (Object (OfHand h)))
      → Sound at_home other (seen s m (value ∷ part ∷ rest) leaks) facts → Sound at_home other (seen s m (whole ∷ rest) leaks) facts
  joined_sound at_home other facts hands sound =
      let a : Loc → Content = content s m (value ∷ part ∷ rest) in
      let b : Loc → Content = content s m (whole ∷ rest) in
      let checks : Checks s.table (a (hand (length rest))) (step ∷ []) leaks leaks = record {
        keeps = λ n e. e;
        checks = λ p n e. absurd (nothing p n (sym (ap (λ c. word_in s.table c (p ++ step ∷ [])) at_part) ∙ e));
        only = λ n e. inl e;
      } in
      let move = stored_step s.table settled a b (length (part ∷ rest)) value (Inside (hand (length rest)) step) (length m.cells) (λ n. (cell m n).freed) leaks leaks joins checks in
      handed at_home other (seen s m (value ∷ part ∷ rest) leaks) (seen s m (whole ∷ rest) leaks) (Object (OfHand (length (part ∷ rest)))) (Into (Object (OfHand (length rest))) step)
      (hand (length (part ∷ rest))) (Inside (hand (length rest)) step) facts sound move tt (hands (length (part ∷ rest))) refl (hand (length rest), refl, refl)
      (λ e. (let same : suc (length rest) ≡ length rest = loc_hands e in absurd (omega (arith, same))))
      (stored_whole s.table settled a b (length (part ∷ rest)) value (Inside (hand (length rest)) step) (length m.cells) (λ n. (cell m n).freed) leaks joins)
