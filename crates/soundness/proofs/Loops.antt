-- The parameter of a loop: owners don't see its values.
use Rattle.std.proofs.Common.{◌≡◌, refl, sym, ap, ◌∙◌, subst, inl, inr, ℕ, true, not, List, [], ◌∷◌, ℤ, unsigned_abs}
use Rattle.machine.specs.type_definitions.Types.{is_scalar, full}
use Rattle.machine.specs.flow_paths.Objects.{Typing, object_at}
use Rattle.machine.specs.Words as machine
use Rattle.machine.specs.Memory.{Memory, Variable, variable_slots}
use Rattle.machine.specs.States.{Waiting, Leak}
use Rattle.machine.specs.Step as steps
use Rattle.soundness.specs.OwnedWays.Ways.{Step, OfVariable, OfHand, Loc, OfRoot, OfCell, Inside, IsSame}
use Rattle.soundness.proofs.OwnedWays.Locations.{same_loc}
use Rattle.soundness.specs.PartOffsets.Parts.{IsSettled}
use Rattle.soundness.specs.Seen.{content, trunk, steps_in, word_in, seen, is_view_formal}
use Rattle.soundness.proofs.Joined.{trunk_trunk, not_inside}
use Rattle.soundness.proofs.Contents.{word_no}
use Rattle.soundness.proofs.Steps.{no_leaf}
use Rattle.soundness.proofs.Defaults.{NoCell}
use Rattle.soundness.proofs.Parted.{loc_objects, int_cell, position_cell}

-- ---- owners don't see a scalar object

module _ (s : Typing) (settled : IsSettled s.table) (m : Memory) (hands : List Waiting) (leaks : List Leak) (f x : ℕ)
    (scalar : is_scalar (full s.table (object_at s x).of) ≡ true) (variables : List Variable)
    (others : (g y : ℕ) → (OfVariable f x ≡ OfVariable g y → ⊥) → variable_slots s g y variables ≡ variable_slots s g y m.variables) where
  abbrev with_others : Memory
  with_others = record m { variables = variables }

  pub same_word : (l : Loc) (p : List Step) → trunk l ≡ l
      → word_in s.table (content s with_others hands l) p ≡ word_in s.table (content s m hands l) p
  same_word (OfRoot (OfVariable g y)) p t = elim (same_loc (OfRoot (OfVariable f x)) (OfRoot (OfVariable g y))) [
    | inl e ↦ (
        let object : x ≡ y = loc_objects e in
        let plain = subst (λ z. is_scalar (full s.table (object_at s z).of) ≡ true) object scalar in
        let leaf = no_leaf s.table settled (object_at s y).of plain p in
        word_no s.table (content s with_others hands (OfRoot (OfVariable g y))) p leaf
        ∙ sym (word_no s.table (content s m hands (OfRoot (OfVariable g y))) p leaf))
    | inr ne ↦ ap (λ z. word_in s.table (record { of = (object_at s y).of; slots = z; owns = not (is_view_formal s y) }) p)
        (others g y (λ e. ne (ap OfRoot e)))
  ]
  same_word (OfRoot (OfHand h)) p t = refl
  same_word (OfCell c) p t = refl
  same_word (Inside l i) p t = absurd (not_inside l l i t)

  pub scalar_same : IsSame (seen s m hands leaks) (seen s with_others hands leaks)
  scalar_same = record {
    word = λ l. same_word (trunk l) (steps_in l) (trunk_trunk l);
    made = refl;
    freed = λ n. refl;
    leaked = λ n. refl;
  }

-- ---- the value of a parameter

one_no_cell : (w : machine.Word) → ((k : ℕ) → w ≡ machine.Cell k → ⊥) → NoCell (w ∷ [])
one_no_cell w none k has = elim has [ inl e ↦ none k e | inr e ↦ e ]

pub value_plain : (ws : List machine.Word) (v : ℤ) → NoCell (steps.parameter_words ws v)
value_plain [] v = one_no_cell (machine.Int v) (λ k e. int_cell e)
value_plain (machine.Enumerated n ∷ []) v = one_no_cell (machine.Enumerated (unsigned_abs v)) (λ k e. position_cell e)
value_plain (machine.Enumerated n ∷ (w ∷ ws)) v = one_no_cell (machine.Int v) (λ k e. int_cell e)
value_plain (machine.Int n ∷ ws) v = one_no_cell (machine.Int v) (λ k e. int_cell e)
value_plain (machine.Null ∷ ws) v = one_no_cell (machine.Int v) (λ k e. int_cell e)
value_plain (machine.Cell n ∷ ws) v = one_no_cell (machine.Int v) (λ k e. int_cell e)
