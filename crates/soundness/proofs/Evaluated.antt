-- What laws on expressions that may own go by: hands that show the same, and what keeps words typed.
use Rattle.std.proofs.Common.{◌≡◌, eqb-true, refl, sym, ap, ◌∙◌, inl, inr, ℕ, suc, Bool, true, false, ◌==◌, List, [], ◌∷◌, length, arith, if◌then◌else◌}
use Rattle.machine.specs.type_definitions.declared.table.Shape.TheVariants as shape
use Rattle.machine.specs.type_definitions.Types.{shape_of, words, full, is_owning, is_scalar}
use Rattle.machine.specs.flow_paths.Objects.{Typing}
use Rattle.machine.specs.Words.{default}
use Rattle.machine.specs.Words as machine
use Rattle.machine.specs.Memory.{Memory, Place, words_of, moved_out, with_new_cell}
use Rattle.machine.specs.Evaluate.{Now, Evaluated, Done, Raises, Traps, followed_by}
use Rattle.machine.specs.States.{Waiting, Leak}
use Rattle.machine.specs.Owners.{no_value, waiting_at}
use Rattle.soundness.specs.OwnedWays.Ways.{Step, OfVariable, OfHand, Loc, OfRoot, OfCell, Inside, Empty, IsSame}
use Rattle.soundness.specs.PartOffsets.Parts.{is_leaf}
use Rattle.soundness.specs.Seen.{in_hand, content, trunk, steps_in, word_in, seen}
use Rattle.soundness.specs.Typed.{Matches, Kept, Spot}
use Rattle.soundness.proofs.Joined.{trunk_trunk, not_inside}
use Rattle.soundness.proofs.Contents.{bool_cases}
use Rattle.soundness.proofs.Steps.{hand_past}
use Rattle.soundness.proofs.Defaults.{NoCell, blank_word}

pub regrouped : {A B C : Type 0} (x : Evaluated A) (f : A → Now → Evaluated B) (g : B → Now → Evaluated C)
    → followed_by (followed_by x f) g ≡ followed_by x (λ a now. followed_by (f a now) g)
regrouped (Done a n) f g = refl
regrouped (Raises e n) f g = refl
regrouped (Traps t n) f g = refl

-- ---- a hand that shows nothing

module _ (s : Typing) (m : Memory) (leaks : List Leak) where
  -- Two values show the same.
  abbrev pub ShowSame : Waiting → Waiting → Type 0
  ShowSame v w = (p : List Step) → word_in s.table (in_hand w) p ≡ word_in s.table (in_hand v) p

  changed_word : (v w : Waiting) (rest : List Waiting) → ShowSame v w → (l : Loc) (p : List Step) → trunk l ≡ l
      → word_in s.table (content s m (w ∷ rest) l) p ≡ word_in s.table (content s m (v ∷ rest) l) p
  changed_word v w rest same (OfRoot (OfVariable f x)) p t = refl
  changed_word v w rest same (OfRoot (OfHand h)) p t = elim (bool_cases (h == length rest)) [
    | inl e ↦ ap (λ b. word_in s.table (in_hand (if b then w else waiting_at rest h)) p) e ∙ same p
        ∙ sym (ap (λ b. word_in s.table (in_hand (if b then v else waiting_at rest h)) p) e)
    | inr e ↦ ap (λ b. word_in s.table (in_hand (if b then w else waiting_at rest h)) p) e
        ∙ sym (ap (λ b. word_in s.table (in_hand (if b then v else waiting_at rest h)) p) e)
  ]
  changed_word v w rest same (OfCell c) p t = refl
  changed_word v w rest same (Inside l i) p t = absurd (not_inside l l i t)

  -- another type or other words that show the same
  pub changed_hand : (v w : Waiting) (rest : List Waiting) → ShowSame v w → IsSame (seen s m (v ∷ rest) leaks) (seen s m (w ∷ rest) leaks)
  changed_hand v w rest same = record {
    word = λ l. changed_word v w rest same (trunk l) (steps_in l) (trunk_trunk l);
    made = refl;
    freed = λ n. refl;
    leaked = λ n. refl;
  }

  -- a new one that shows nothing
  pub blank_hand : (v : Waiting) (rest : List Waiting) → ((p : List Step) → word_in s.table (in_hand v) p ≡ Empty)
      → IsSame (seen s m rest leaks) (seen s m (v ∷ rest) leaks)
  blank_hand v rest blank = record {
    word = λ l. new_word (trunk l) (steps_in l) (trunk_trunk l);
    made = refl;
    freed = λ n. refl;
    leaked = λ n. refl;
  }
    where
      new_word : (l : Loc) (p : List Step) → trunk l ≡ l → word_in s.table (content s m (v ∷ rest) l) p ≡ word_in s.table (content s m rest l) p
      new_word (OfRoot (OfVariable f x)) p t = refl
      new_word (OfRoot (OfHand h)) p t = elim (bool_cases (h == length rest)) [
        | inl e ↦ ap (λ b. word_in s.table (in_hand (if b then v else waiting_at rest h)) p) e ∙ blank p
            ∙ sym (blank_word s.table (in_hand no_value) [] refl (λ k h. h) p)
            ∙ ap (λ z. word_in s.table (in_hand z) p) (sym (hand_past rest h (let same = eqb-true h (length rest) e in omega (arith, same))))
        | inr e ↦ ap (λ b. word_in s.table (in_hand (if b then v else waiting_at rest h)) p) e
      ]
      new_word (OfCell c) p t = refl
      new_word (Inside l i) p t = absurd (not_inside l l i t)

-- ---- what keeps words typed (proved apart)

pub record Keeps (s : Typing) : Type 0 where
  -- a value without cells, and one of another type that matches
  pub plain : (m : Memory) (v : Waiting) (rest : List Waiting) → NoCell v.words → Kept s m rest → Kept s m (v ∷ rest)
  pub scalar : (m : Memory) (v : Waiting) (rest : List Waiting) → is_scalar (full s.table v.of) ≡ true → Kept s m rest → Kept s m (v ∷ rest)
  pub retyped : (m : Memory) (t u : ℕ) (ws : List machine.Word) (rest : List Waiting) → Matches s.table t u
      → Kept s m (record { of = t; words = ws } ∷ rest) → Kept s m (record { of = u; words = ws } ∷ rest)
  -- a copy of what a place has, and what is taken from it
  pub copied : (m : Memory) (rest : List Waiting) (k : Place) (l : Loc) → Spot s m rest k l → Kept s m rest
      → Kept s m (record { of = k.of; words = words_of s m k } ∷ rest)
  pub moved : (m : Memory) (rest : List Waiting) (k : Place) (l : Loc) → Spot s m rest k l → Kept s m rest
      → Kept s (moved_out s k m) (record { of = k.of; words = words_of s m k } ∷ rest)
  -- a cell is made
  pub made : (m : Memory) (t want d : ℕ) (c n : Bool) (ws : List machine.Word) (rest : List Waiting) → length ws ≡ words s.table t
      → shape_of s.table want ≡ shape.Access d c n → Matches s.table d t
      → Kept s m (record { of = t; words = ws } ∷ record { of = want; words = [] } ∷ rest)
      → Kept s (with_new_cell t ws m) (record { of = want; words = machine.Cell (suc (length m.cells)) ∷ [] } ∷ rest)
  pub lengths : (t : ℕ) → length (default s.table t) ≡ words s.table t
  -- a type that doesn't own has no word that does
  pub ownerless : (t : ℕ) → is_owning s.table t ≡ false → (p : List Step) → is_leaf s.table t p ≡ false
