-- Equal values of one constructor hold equal parts, and values of two constructors aren't equal: one lemma each, so that
-- no proof within a long section searches for it.
use Rattle.std.proofs.Common.{◌≡◌, ◌⊎◌, inl, inr, ℕ, Some, List, [], ◌∷◌}
use Rattle.std.specs.Prelude.{ℤ}
use Rattle.machine.specs.Memory as memory
use Rattle.machine.specs.Words as words
use Rattle.soundness.specs.OwnedWays.Ways.{Root, OfVariable, OfHand, Loc, OfRoot, OfCell, Inside, Step, Empty, Gone, Held}

pub loc_frames : {f x g y : ℕ} → OfRoot (OfVariable f x) ≡ OfRoot (OfVariable g y) → f ≡ g
loc_frames e = cc

pub loc_objects : {f x g y : ℕ} → OfRoot (OfVariable f x) ≡ OfRoot (OfVariable g y) → x ≡ y
loc_objects e = cc

pub loc_cells : {a b : ℕ} → OfCell a ≡ OfCell b → a ≡ b
loc_cells e = cc

pub base_frames : {f x g y : ℕ} → memory.OfVariable f x ≡ memory.OfVariable g y → f ≡ g
base_frames e = cc

pub base_objects : {f x g y : ℕ} → memory.OfVariable f x ≡ memory.OfVariable g y → x ≡ y
base_objects e = cc

pub word_cells : {a b : ℕ} → words.Cell a ≡ words.Cell b → a ≡ b
word_cells e = cc

pub int_cell : {a : ℤ} {b : ℕ} → words.Int a ≡ words.Cell b → ⊥
int_cell e = cc

pub position_cell : {a b : ℕ} → words.Enumerated a ≡ words.Cell b → ⊥
position_cell e = cc

pub null_cell : {b : ℕ} → words.Null ≡ words.Cell b → ⊥
null_cell e = cc

pub empty_held : {n : ℕ} → Empty ≡ Held n → ⊥
empty_held e = cc

pub empty_gone : Empty ≡ Gone → ⊥
empty_gone e = cc

pub cell_root : {r : Root} {n : ℕ} → OfCell n ≡ OfRoot r → ⊥
cell_root e = cc

pub cell_inside : {l : Loc} {i : Step} {n : ℕ} → OfCell n ≡ Inside l i → ⊥
cell_inside e = cc

pub hand_variable : {h f x : ℕ} → OfRoot (OfHand h) ≡ OfRoot (OfVariable f x) → ⊥
hand_variable e = cc

pub some_same : {A : Type 0} {a b : A} → Some a ≡ Some b → a ≡ b
some_same e = cc

pub held_cells : {a b : ℕ} → Held a ≡ Held b → a ≡ b
held_cells e = cc

pub loc_hands : {a b : ℕ} → OfRoot (OfHand a) ≡ OfRoot (OfHand b) → a ≡ b
loc_hands e = cc

pub not_empty : {A : Type 0} {x : A} {xs : List A} → x ∷ xs ≡ [] → ⊥
not_empty e = cc

-- What follows from either side. A term of it is read once, where that of an `elim` is read twice, and again within another.
pub by_either : {A B C : Type 0} → A ⊎ B → (A → C) → (B → C) → C
by_either (inl a) f g = f a
by_either (inr b) f g = g b
