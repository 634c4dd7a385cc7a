-- A step that takes values which wait is like one at a point that takes none, once the values are
-- out of the frame. They are of scalar types, and owners don't see them.
use Rattle.std.proofs.Common.{◌≡◌, refl, ap, ◌∙◌, ℕ, suc, List, [], ◌∷◌, ◌++◌, map, reverse, length}
use Rattle.std.specs.List.{AllByRecursion}
use Rattle.std.proofs.lemmas.List.{length-reverse}
use mathlib.Core.List.{reverse_aux}
use Rattle.machine.specs.flow_paths.Instructions.{Skip}
use Rattle.machine.specs.flow_paths.Objects.{Typing}
use Rattle.machine.specs.Words as machine
use Rattle.machine.specs.Memory.{Memory}
use Rattle.machine.specs.Evaluate.{Exception, Trap, Evaluated, Done, Raises, Traps}
use Rattle.machine.specs.States.{Waiting, Outcome, Goes}
use Rattle.machine.specs.Step.{Turn, waiting, goes, behind, raised, trapped}
use Rattle.machine.specs.Step as steps
use Rattle.soundness.specs.Sound.{IsPlainValue}
use Rattle.soundness.proofs.Waits.{drop_none}
use Rattle.soundness.proofs.Taking.{IsWord, Takes}

-- ---- the turn

module _ (t : Turn) where
  abbrev pub eased : Turn
  eased = record t {
    point = record t.point { instr = Skip };
    state = record t.state { frames = record t.frame { waits = waiting t } ∷ t.outer };
    frame = record t.frame { waits = waiting t };
  }

  pub waits_same : waiting eased ≡ waiting t
  waits_same = drop_none (waiting t)

  pub goes_same : (m : Memory) (k : ℕ) → goes eased m k ≡ goes t m k
  goes_same m k = ap (λ z. Goes (behind t z m k)) waits_same

  -- What the eased step leads to, the step does, if it does what is asked where it raises.
  module _ (P : Outcome → Type 0) (raising : (e : Exception) (m : Memory) → P (raised t e m)) (never : (trap : Trap) (m : Memory) → P (trapped eased trap m) → ⊥) where
    pub from_eased : {A : Type 0} (y : Evaluated A) (f g : A → Memory → Outcome) → ((a : A) (m : Memory) → P (f a m) → P (g a m))
        → P (steps.evaluated eased y f) → P (steps.evaluated t y g)
    from_eased (Done a n) f g same on = same a n.memory on
    from_eased (Raises e n) f g same on = raising e n.memory
    from_eased (Traps trap n) f g same on = absurd (never trap n.memory on)

-- ---- what is taken

abbrev words_of_value : Waiting → List machine.Word
words_of_value v = v.words

reversed_plain : (s : Typing) (vs ws : List Waiting) → AllByRecursion (IsPlainValue s) vs → AllByRecursion (IsPlainValue s) ws
    → AllByRecursion (IsPlainValue s) (reverse_aux vs ws)
reversed_plain s [] ws a b = b
reversed_plain s (v ∷ vs) ws a b = reversed_plain s vs (v ∷ ws) a.1 (a.0, b)

reverse_plain : (s : Typing) (vs : List Waiting) → AllByRecursion (IsPlainValue s) vs → AllByRecursion (IsPlainValue s) (reverse vs)
reverse_plain s vs plain = reversed_plain s vs [] plain tt

one_word : (s : Typing) (vs : List Waiting) → AllByRecursion (IsPlainValue s) vs → AllByRecursion IsWord (map words_of_value vs)
one_word s [] plain = tt
one_word s (v ∷ vs) plain = ((plain.0).1, one_word s vs plain.1)

mapped_length : (vs : List Waiting) → length (map words_of_value vs) ≡ length vs
mapped_length [] = refl
mapped_length (v ∷ vs) = ap suc (mapped_length vs)

no_rest : (ws : List (List machine.Word)) → ws ≡ ws ++ []
no_rest [] = refl
no_rest (w ∷ ws) = ap (λ z. w ∷ z) (no_rest ws)

-- The instruction takes all that it is given.
pub takes_all : (s : Typing) (vs : List Waiting) (n : ℕ) → length vs ≡ n → AllByRecursion (IsPlainValue s) vs → Takes n (map words_of_value (reverse vs)) []
takes_all s vs n long plain = record {
  all = map words_of_value (reverse vs);
  is = no_rest (map words_of_value (reverse vs));
  count = mapped_length (reverse vs) ∙ length-reverse vs ∙ long;
  each = one_word s (reverse vs) (reverse_plain s vs plain);
}
