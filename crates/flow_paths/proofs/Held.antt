-- As many temporaries hold values of an expression as it has values that wait.
use Rattle.std.proofs.Common.{◌≡◌, ℕ, ◌+◌, List, [], ◌∷◌, ◌++◌, length, refl, arith}
use Rattle.std.specs.Prelude.{Bool, true, false, if◌then◌else◌}
use Rattle.std.proofs.lemmas.Grind.{common_steps}
use Rattle.typed_tree.specs.Trees.{TypedTree, Name, Component, Designated, Element, Call, Image, Parens, Unary, Binary, Short, IsNull, Aggregate, Alike, New, More}
use Rattle.flow_paths.specs.Names.{has_call, waiting}
use Rattle.flow_paths.specs.Points.{Place}
use Rattle.flow_paths.specs.Prep.{Setting, held}

-- The later ones stand first.
both : (xs ys : List ℕ) (m n : ℕ) → length xs ≡ m → length ys ≡ n → length (ys ++ xs) ≡ m + n
both xs ys m n first second = grind (arith, common_steps, first, second)

either : (b : Bool) (t : ℕ) (xs : List ℕ) (n : ℕ) → length xs ≡ n → length (if b then t ∷ [] else xs) ≡ (if b then 1 else n)
either true t xs n h = refl
either false t xs n h = h

pub held_count : (s : Setting) (e : TypedTree) (at : Place) → length (held s e at) ≡ waiting e
unfolding held waiting
held_count s (Call p sub actuals) at = refl
held_count s (Short op p a q b) at =
    either (has_call b) (s.temporary at) (held s b (1 ∷ at) ++ held s a (0 ∷ at)) (waiting a + waiting b)
    (both (held s a (0 ∷ at)) (held s b (1 ∷ at)) (waiting a) (waiting b) (held_count s a (0 ∷ at)) (held_count s b (1 ∷ at)))
held_count s (Name p x e t) at = held_count s e (0 ∷ at)
held_count s (Component i e) at = held_count s e (0 ∷ at)
held_count s (Designated e) at = held_count s e (0 ∷ at)
held_count s (Element a low high b) at =
    both (held s a (0 ∷ at)) (held s b (1 ∷ at)) (waiting a) (waiting b) (held_count s a (0 ∷ at)) (held_count s b (1 ∷ at))
held_count s (Image t e) at = held_count s e (0 ∷ at)
held_count s (Parens e) at = held_count s e (0 ∷ at)
held_count s (Unary op e) at = held_count s e (0 ∷ at)
held_count s (Binary op a b) at =
    both (held s a (0 ∷ at)) (held s b (1 ∷ at)) (waiting a) (waiting b) (held_count s a (0 ∷ at)) (held_count s b (1 ∷ at))
held_count s (IsNull equal e) at = held_count s e (0 ∷ at)
held_count s (Aggregate t e) at = held_count s e (0 ∷ at)
held_count s (Alike t e) at = held_count s e (0 ∷ at)
held_count s (New t e) at = held_count s e (0 ∷ at)
held_count s (More a b) at =
    both (held s a (0 ∷ at)) (held s b (1 ∷ at)) (waiting a) (waiting b) (held_count s a (0 ∷ at)) (held_count s b (1 ∷ at))
held_count s _ at = refl
