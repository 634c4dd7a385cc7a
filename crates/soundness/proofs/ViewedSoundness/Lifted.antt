-- A value goes from one hand to another one.
use Rattle.std.proofs.Common.{◌≡◌, refl, sym, ap, ◌∙◌, subst, inl, inr, ℕ, ◌+◌, List, [], ◌++◌, length, get_or, arith}
use Rattle.std.proofs.lemmas.List.{get_or_past}
use Rattle.std.proofs.lemmas.Bool.{false≢true}
use Rattle.machine.specs.place_names.declared.fact.Fact.{Fact}
use Rattle.machine.specs.type_definitions.Types.{shape_of, words}
use Rattle.machine.specs.flow_paths.Objects.{Typing}
use Rattle.machine.specs.Words as machine
use Rattle.machine.specs.Memory.{Memory, cell, fresh, no_slot}
use Rattle.machine.specs.Owners.{no_value, waiting_at}
use Rattle.machine.specs.States.{Waiting, Leak}
use Rattle.soundness.specs.OwnedWays.Ways.{Step, OfVariable, OfHand, Loc, OfRoot, OfCell, Inside, Way, Object, Empty, Held, Sound, Spares}
use Rattle.soundness.proofs.OwnedWays.Assigned.{handed}
use Rattle.soundness.specs.PartOffsets.Parts.{IsSettled}
use Rattle.soundness.specs.Seen.{in_hand, content, trunk, word_in, seen}
use Rattle.soundness.specs.Changes.{Put, hand, Checks, Stores}
use Rattle.soundness.specs.Typed.{Kept, Points}
use Rattle.soundness.proofs.Around.{same_or_not}
use Rattle.soundness.proofs.Contents.{stored_step, stored_whole}
use Rattle.soundness.proofs.Defaults.{blank_word}
use Rattle.soundness.proofs.Joined.{not_inside}
use Rattle.soundness.proofs.Steps.{alike}
use Rattle.soundness.proofs.Constructors.{is_cell_word, is_held_word}

same_hand : (i j : ℕ) → hand i ≡ hand j → i ≡ j
same_hand i j e = cc

module _ (s : Typing) (settled : IsSettled s.table) (m : Memory) (leaks : List Leak) (a b : List Waiting) (h k : ℕ) (v : Waiting) (differ : k ≡ h → ⊥)
    (from : waiting_at a h ≡ v) (left : waiting_at b h ≡ no_value) (free : waiting_at a k ≡ record { of = v.of; words = [] }) (to : waiting_at b k ≡ v)
    (others : (j : ℕ) → (j ≡ h → ⊥) → (j ≡ k → ⊥) → waiting_at b j ≡ waiting_at a j) (long : length v.words ≡ words s.table v.of) where
  abbrev blank : Waiting
  blank = record { of = v.of; words = [] }

  raw : Put (in_hand blank) (in_hand v) 0 (fresh v.words)
  raw = record {
    of = refl;
    owns = refl;
    outside = λ o out. elim out [
      | inl less ↦ absurd (omega (arith, less))
      | inr le ↦ get_or_past (fresh v.words) o no_slot (omega (arith, le))
    ];
    inside = λ i lt. ap (λ o. get_or (fresh v.words) o no_slot) (let none : 0 + i ≡ i = omega arith in none);
  }

  moves : Stores s.table (content s m a) (content s m b) h v (hand k)
  moves = record {
    before = ap in_hand from;
    behind = ap in_hand left;
    other = other;
    put = subst (λ z. Put z (content s m b (hand k)) 0 (fresh v.words)) (sym (ap in_hand free)) (subst (λ z. Put (in_hand blank) z 0 (fresh v.words)) (sym (ap in_hand to)) raw);
    there = refl;
    owns = refl;
    fits = long ∙ ap (λ (z : Waiting). words s.table z.of) (sym free);
    alike = alike s.table settled v.of (waiting_at a k).of (inl (ap (λ (z : Waiting). shape_of s.table z.of) (sym free)));
    apart = λ e. differ (same_hand k h e);
  }
    where
      other : (l : Loc) → trunk l ≡ l → (l ≡ hand k → ⊥) → (l ≡ hand h → ⊥) → content s m b l ≡ content s m a l
      other (OfRoot (OfVariable f x)) is ne off = refl
      other (OfRoot (OfHand j)) is ne off = ap in_hand (others j (λ e. off (ap hand e)) (λ e. ne (ap hand e)))
      other (OfCell c) is ne off = refl
      other (Inside l i) is ne off = absurd (not_inside l l i is)

  -- nothing was there before
  nothing : (p : List Step) (n : ℕ) → word_in s.table (content s m a (hand k)) p ≡ Held n → ⊥
  nothing p n e =
      let none : word_in s.table (content s m a (hand k)) p ≡ Empty =
      ap (λ z. word_in s.table (in_hand z) p) free ∙ blank_word s.table (in_hand blank) [] refl (λ c has. has) p in
      let is : Empty ≡ Held n = sym none ∙ e in absurd (false≢true (ap is_held_word is))

  pub lifted_sound : (at_home : ℕ → ℕ) (other : Way → Type 0) (facts : List Fact) → ((j : ℕ) → Spares other (Object (OfHand j)))
      → Sound at_home other (seen s m a leaks) facts → Sound at_home other (seen s m b leaks) facts
  lifted_sound at_home other facts hands sound =
      let checks : Checks s.table (content s m a (hand k)) [] leaks leaks = record {
        keeps = λ n e. e;
        checks = λ p n e. absurd (nothing (p ++ []) n e);
        only = λ n e. inl e;
      } in
      handed at_home other (seen s m a leaks) (seen s m b leaks) (Object (OfHand h)) (Object (OfHand k)) (hand h) (hand k) facts sound
      (stored_step s.table settled (content s m a) (content s m b) h v (hand k) (length m.cells) (λ n. (cell m n).freed) leaks leaks moves checks) tt (hands h) refl refl
      (λ e. differ (same_hand k h (sym e)))
      (stored_whole s.table settled (content s m a) (content s m b) h v (hand k) (length m.cells) (λ n. (cell m n).freed) leaks moves)

  -- words stay typed
  pub lifted_kept : Kept s m a → Kept s m b
  lifted_kept kept = record { variables = kept.variables; cells = kept.cells; points = points }
    where
      in_hands : (j : ℕ) → Points s m (in_hand (waiting_at b j))
      in_hands j = elim (same_or_not j h) [
        | inl e ↦ subst (λ z. Points s m (in_hand z)) (sym (ap (waiting_at b) e ∙ left)) (λ p d c n i has is at. (let none : machine.Null ≡ machine.Cell i = at in absurd (false≢true (ap is_cell_word none))))
        | inr ne ↦ elim (same_or_not j k) [
          | inl e ↦ subst (λ z. Points s m (in_hand z)) (from ∙ sym (ap (waiting_at b) e ∙ to)) (kept.points (hand h))
          | inr off ↦ subst (λ z. Points s m (in_hand z)) (sym (others j ne off)) (kept.points (hand j))
        ]
      ]

      points : (l : Loc) → Points s m (content s m b l)
      points (OfRoot (OfVariable f x)) = kept.points (OfRoot (OfVariable f x))
      points (OfRoot (OfHand j)) = in_hands j
      points (OfCell c) = kept.points (OfCell c)
      points (Inside l i) = points l
