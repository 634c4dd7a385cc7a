-- A cell is made of the latest value in hand, and its number goes to the hand below.
use Rattle.std.proofs.Common.{◌≡◌, refl, sym, ap, ◌∙◌, subst, ◌⊎◌, inl, inr, ℕ, suc, ◌+◌, true, false, not, ◌==◌, List, [], ◌∷◌, ◌++◌, length, get_or, arith, append-nil, if◌then◌else◌}
use Rattle.std.proofs.lemmas.List.{get_or_past}
use Rattle.std.proofs.lemmas.Bool.{false≢true}
use Rattle.machine.specs.place_names.declared.fact.Fact.{Fact}
use Rattle.machine.specs.type_definitions.Types.{words}
use Rattle.machine.specs.flow_paths.Objects.{Typing}
use Rattle.machine.specs.Words as machine
use Rattle.machine.specs.Memory.{Memory, HeapCell, fresh, cell, no_cell, no_slot, with_new_cell}
use Rattle.machine.specs.States.{Waiting, Leak}
use Rattle.soundness.specs.OwnedWays.Ways.{Step, OfVariable, OfHand, Loc, OfRoot, OfCell, Inside, Way, Object, All, Empty, Held, IsFresh, IsMove, Sound, Spares}
use Rattle.soundness.proofs.OwnedWays.Locations.{same_loc}
use Rattle.soundness.proofs.OwnedWays.Assigned.{handed}
use Rattle.soundness.proofs.OwnedWays.Released.{freshly}
use Rattle.soundness.specs.PartOffsets.Parts.{has_part, is_leaf, IsSettled}
use Rattle.soundness.proofs.PartOffsets.Ranges.{leaf_end, leaf_part}
use Rattle.soundness.specs.Seen.{Content, in_hand, content, trunk, steps_in, word_in, seen_of, seen}
use Rattle.soundness.specs.Changes.{Alike, hand, Checks, Stores}
use Rattle.soundness.proofs.Joined.{trunk_trunk, not_inside, below_from}
use Rattle.soundness.proofs.Contents.{bool_cases, word_yes, word_no, word_dead, word_part, stored_step, stored_whole}
use Rattle.soundness.proofs.Steps.{hand_top, hand_past, hand_below}
use Rattle.soundness.proofs.Defaults.{NoCell, blank_word}
use Rattle.soundness.proofs.Ends.{new_there, new_other, new_count}
use Rattle.soundness.proofs.Constructors.{is_held_word}
use Rattle.soundness.proofs.Parted.{loc_cells, loc_hands}

module _ (s : Typing) (settled : IsSettled s.table) (m : Memory) (t want : ℕ) (ws : List machine.Word) (rest : List Waiting) (leaks : List Leak)
    (long : length ws ≡ words s.table t) (own : is_leaf s.table want [] ≡ true) where
  abbrev value : Waiting
  value = record { of = t; words = ws }

  abbrev blank : Waiting
  blank = record { of = want; words = [] }

  abbrev got : Waiting
  got = record { of = want; words = machine.Cell (suc (length m.cells)) ∷ [] }

  abbrev mid : Memory
  mid = with_new_cell t [] m

  abbrev last : Memory
  last = with_new_cell t ws m

  no_words : NoCell []
  no_words k h = h

  -- ---- the number goes to the hand below

  at_blank : content s m (value ∷ blank ∷ rest) (hand (length rest)) ≡ in_hand blank
  at_blank = ap in_hand (hand_below value (blank ∷ rest) (length rest) (λ e. absurd (omega (arith, e))) ∙ hand_top blank rest)

  at_got : content s mid (value ∷ got ∷ rest) (hand (length rest)) ≡ in_hand got
  at_got = ap in_hand (hand_below value (got ∷ rest) (length rest) (λ e. absurd (omega (arith, e))) ∙ hand_top got rest)

  new_cell : content s mid (value ∷ got ∷ rest) (OfCell (suc (length m.cells))) ≡ record { of = t; slots = []; owns = true }
  new_cell = ap (λ (c : HeapCell). record { of = c.of; slots = c.slots; owns = not c.freed }) (new_there s m t [])

  no_cell_yet : (content s m (value ∷ blank ∷ rest) (OfCell (suc (length m.cells)))).owns ≡ false
  no_cell_yet = ap (λ (c : HeapCell). not c.freed) (get_or_past m.cells (length m.cells) no_cell (omega arith))

  others_stay : (k : Loc) → trunk k ≡ k → (k ≡ hand (length rest) → ⊥) → (k ≡ OfCell (suc (length m.cells)) → ⊥)
      → content s mid (value ∷ got ∷ rest) k ≡ content s m (value ∷ blank ∷ rest) k
  others_stay (OfRoot (OfVariable f x)) t ne cell_ne = refl
  others_stay (OfRoot (OfHand h)) t ne cell_ne =
      ap (λ z. in_hand (if h == suc (length rest) then value else z))
      (hand_below got rest h (λ e. ne (ap hand e)) ∙ sym (hand_below blank rest h (λ e. ne (ap hand e))))
  others_stay (OfCell c) t' ne cell_ne =
      ap (λ (z : HeapCell). record { of = z.of; slots = z.slots; owns = not z.freed }) (new_other s m t [] c (λ e. cell_ne (ap OfCell e)))
  others_stay (Inside l i) t ne cell_ne = absurd (not_inside l l i t)

  inner : (p : List Step) → (p ≡ [] → ⊥) → is_leaf s.table want p ≡ false
  inner p ne = elim (bool_cases (is_leaf s.table want p)) [
    | inr isnt ↦ isnt
    | inl holds ↦ absurd (ne (leaf_end s.table settled want p [] own
        (ap (has_part s.table want) (append-nil p) ∙ leaf_part s.table settled want p holds)))
  ]

  pub fresh_step : IsFresh (seen s m (value ∷ blank ∷ rest) leaks) (seen s mid (value ∷ got ∷ rest) leaks) (hand (length rest))
  fresh_step = record {
    made = ap suc (new_count s m t []);
    freed = λ c less. ap (λ (z : HeapCell). z.freed) (new_other s m t [] c (λ e. absurd (omega (arith, less, e))));
    live = ap (λ (z : HeapCell). z.freed) (new_there s m t []);
    leaked = λ c. refl;
    off = λ l other. off l other (same_loc (trunk l) (hand (length rest))) (same_loc (trunk l) (OfCell (suc (length m.cells))));
    was = ap (λ c. word_in s.table c []) at_blank ∙ blank_word s.table (in_hand blank) [] refl no_words [];
    now = ap (λ c. word_in s.table c []) at_got ∙ word_yes s.table (in_hand got) [] refl own;
    empty = λ p. word_part s.table (content s mid (value ∷ got ∷ rest)) (OfCell (suc (length m.cells))) p
        ∙ ap (λ c. word_in s.table c (p ++ [])) new_cell
        ∙ blank_word s.table (record { of = t; slots = []; owns = true }) [] refl no_words (p ++ []);
  }
    where
      off : (l : Loc) → (l ≡ hand (length rest) → ⊥) → (trunk l ≡ hand (length rest)) ⊎ (trunk l ≡ hand (length rest) → ⊥)
          → (trunk l ≡ OfCell (suc (length m.cells))) ⊎ (trunk l ≡ OfCell (suc (length m.cells)) → ⊥)
          → word_in s.table (content s mid (value ∷ got ∷ rest) (trunk l)) (steps_in l) ≡ word_in s.table (content s m (value ∷ blank ∷ rest) (trunk l)) (steps_in l)
      off l other (inl e) c =
          let isnt = inner (steps_in l) (λ none. other (below_from (hand (length rest)) l [] e none)) in
          ap (λ z. word_in s.table (content s mid (value ∷ got ∷ rest) z) (steps_in l)) e
          ∙ ap (λ z. word_in s.table z (steps_in l)) at_got
          ∙ word_no s.table (in_hand got) (steps_in l) isnt
          ∙ sym (word_no s.table (in_hand blank) (steps_in l) isnt)
          ∙ ap (λ z. word_in s.table z (steps_in l)) (sym at_blank)
          ∙ sym (ap (λ z. word_in s.table (content s m (value ∷ blank ∷ rest) z) (steps_in l)) e)
      off l other (inr ne) (inl e) =
          ap (λ z. word_in s.table (content s mid (value ∷ got ∷ rest) z) (steps_in l)) e
          ∙ ap (λ z. word_in s.table z (steps_in l)) new_cell
          ∙ blank_word s.table (record { of = t; slots = []; owns = true }) [] refl no_words (steps_in l)
          ∙ sym (word_dead s.table (content s m (value ∷ blank ∷ rest) (OfCell (suc (length m.cells)))) (steps_in l) no_cell_yet)
          ∙ sym (ap (λ z. word_in s.table (content s m (value ∷ blank ∷ rest) z) (steps_in l)) e)
      off l other (inr ne) (inr cell_ne) = ap (λ z. word_in s.table z (steps_in l)) (others_stay (trunk l) (trunk_trunk l) ne cell_ne)

  -- ---- the value goes into the cell

  last_cell : content s last (got ∷ rest) (OfCell (suc (length m.cells))) ≡ record { of = t; slots = fresh ws; owns = true }
  last_cell = ap (λ (c : HeapCell). record { of = c.of; slots = c.slots; owns = not c.freed }) (new_there s m t ws)

  into_cell : Stores s.table (content s mid (value ∷ got ∷ rest)) (content s last (got ∷ rest)) (length (got ∷ rest)) value (OfCell (suc (length m.cells)))
  into_cell = record {
    before = ap in_hand (hand_top value (got ∷ rest));
    behind = ap in_hand (hand_past (got ∷ rest) (length (got ∷ rest)) (omega arith));
    other = other;
    put = record {
      of = ap (λ (c : Content). c.of) last_cell ∙ sym (ap (λ (c : Content). c.of) new_cell);
      owns = ap (λ (c : Content). c.owns) last_cell ∙ sym (ap (λ (c : Content). c.owns) new_cell);
      outside = λ o out. ap (λ (c : Content). get_or c.slots o no_slot) last_cell
          ∙ get_or_past (fresh ws) o no_slot (elim out [ inl lt ↦ absurd (omega (arith, lt)) | inr le ↦ omega (arith, le) ])
          ∙ sym (get_or_past [] o no_slot (omega arith))
          ∙ sym (ap (λ (c : Content). get_or c.slots o no_slot) new_cell);
      inside = λ i lt. ap (λ (c : Content). get_or c.slots (0 + i) no_slot) last_cell
          ∙ ap (λ n. get_or (fresh ws) n no_slot) (let e : 0 + i ≡ i = omega arith in e);
    };
    there = refl;
    owns = ap (λ (c : Content). c.owns) new_cell;
    fits = long ∙ sym (ap (λ (c : Content). words s.table c.of) new_cell);
    alike = subst (λ u. Alike s.table t u) (sym (ap (λ (c : Content). c.of) new_cell)) (record { leaf = λ p. refl; at = λ p e. refl });
    apart = λ e. cc;
  }
    where
      other : (k : Loc) → trunk k ≡ k → (k ≡ OfCell (suc (length m.cells)) → ⊥) → (k ≡ hand (length (got ∷ rest)) → ⊥)
          → content s last (got ∷ rest) k ≡ content s mid (value ∷ got ∷ rest) k
      other (OfRoot (OfVariable f x)) is ne off = refl
      other (OfRoot (OfHand h)) is ne off = sym (ap in_hand (hand_below value (got ∷ rest) h (λ e. off (ap hand e))))
      other (OfCell c) is ne off =
          ap (λ (z : HeapCell). record { of = z.of; slots = z.slots; owns = not z.freed })
          (new_other s m t ws c (λ e. ne (ap OfCell e)) ∙ sym (new_other s m t [] c (λ e. ne (ap OfCell e))))
      other (Inside l i) is ne off = absurd (not_inside l l i is)

  -- the count of cells, and what is freed, is the same for both
  last_count : length last.cells ≡ length mid.cells
  last_count = new_count s m t ws ∙ sym (new_count s m t [])

  last_freed : (c : ℕ) → (cell last c).freed ≡ (cell mid c).freed
  last_freed c = elim (same_loc (OfCell c) (OfCell (suc (length m.cells)))) [
    | inl e ↦ (
        let is : c ≡ suc (length m.cells) = loc_cells e in
        ap (λ n. (cell last n).freed) is ∙ ap (λ (z : HeapCell). z.freed) (new_there s m t ws)
        ∙ sym (ap (λ n. (cell mid n).freed) is ∙ ap (λ (z : HeapCell). z.freed) (new_there s m t [])))
    | inr ne ↦ ap (λ (z : HeapCell). z.freed) (new_other s m t ws c (λ e. ne (ap OfCell e)) ∙ sym (new_other s m t [] c (λ e. ne (ap OfCell e))))
  ]

  -- both together, without an act
  pub made_sound : (at_home : ℕ → ℕ) (other : Way → Type 0) (facts : List Fact) → ((h : ℕ) → Spares other (Object (OfHand h)))
      → Sound at_home other (seen s m (value ∷ blank ∷ rest) leaks) facts → Sound at_home other (seen s last (got ∷ rest) leaks) facts
  made_sound at_home other facts hands sound =
      let first = freshly at_home other (seen s m (value ∷ blank ∷ rest) leaks) (seen s mid (value ∷ got ∷ rest) leaks) (Object (OfHand (length rest)))
      (hand (length rest)) facts sound refl fresh_step in
      let checks : Checks s.table (content s mid (value ∷ got ∷ rest) (OfCell (suc (length m.cells)))) [] leaks leaks = record {
        keeps = λ n e. e;
        checks = λ p n e. (
            let none : Empty ≡ Held n = sym (blank_word s.table (record { of = t; slots = []; owns = true }) [] refl no_words (p ++ []))
            ∙ sym (ap (λ c. word_in s.table c (p ++ [])) new_cell) ∙ e in absurd (false≢true (ap is_held_word none)));
        only = λ n e. inl e;
      } in
      let a : Loc → Content = content s mid (value ∷ got ∷ rest) in
      let b : Loc → Content = content s last (got ∷ rest) in
      let move0 = stored_step s.table settled a b (length (got ∷ rest)) value (OfCell (suc (length m.cells))) (length mid.cells) (λ n. (cell mid n).freed) leaks leaks into_cell checks in
      let move : IsMove (seen s mid (value ∷ got ∷ rest) leaks) (seen s last (got ∷ rest) leaks) (hand (length (got ∷ rest))) (OfCell (suc (length m.cells))) =
      subst (λ z. IsMove (seen s mid (value ∷ got ∷ rest) leaks) z (hand (length (got ∷ rest))) (OfCell (suc (length m.cells))))
      (λ j. seen_of s.table b (sym last_count j) (λ n. sym (last_freed n) j) leaks) move0 in
      handed at_home other (seen s mid (value ∷ got ∷ rest) leaks) (seen s last (got ∷ rest) leaks) (Object (OfHand (length (got ∷ rest)))) (All (Object (OfHand (length rest))))
      (hand (length (got ∷ rest))) (OfCell (suc (length m.cells))) facts first move tt (hands (length (got ∷ rest))) refl
      (hand (length rest), suc (length m.cells), refl, fresh_step.now, refl) (λ e. (let same : suc (length rest) ≡ length rest = loc_hands e in absurd (omega (arith, same))))
      (stored_whole s.table settled a b (length (got ∷ rest)) value (OfCell (suc (length m.cells))) (length last.cells) (λ n. (cell last n).freed) leaks into_cell)
