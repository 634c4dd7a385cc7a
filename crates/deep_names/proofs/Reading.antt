-- Reading rows.
use Rattle.std.proofs.Common.{◌≡◌, ◌≤◌, ◌<◌, ◌+◌, ◌&&◌, nat_lt, IsTrue, ℕ, zero, suc, List, [], ◌∷◌, ◌++◌, length, get_or, refl, arith}
use Rattle.std.proofs.lemmas.Grind.{common_steps}
use Rattle.resolved_tree.specs.Nodes.{grown}
use Rattle.typed_tree.specs.Trees.{NoMore}
use Rattle.typed_tree.specs.Nodes.{TypedNodes, typed_of, typed_at, typed_code_of, typed_code_at}

length_grown : {N T : Type 0} (make : (ℕ → T) → N → T) (none : T) (made : List T) (nodes : List N)
    → length (grown make none made nodes) ≡ length made + length nodes
length_grown make none made [] = omega arith
length_grown make none made (m ∷ rest) =
    grind (arith, common_steps, length_grown make none (made ++ make (λ i. get_or made i none) m ∷ []) rest)

pub past : {T : Type 0} (xs : List T) (i : ℕ) (d : T) → length xs ≤ i → get_or xs i d ≡ d
past [] i d le = refl
past (x ∷ xs) zero d le = absurd (omega (arith, le))
past (x ∷ xs) (suc i) d le = past xs i d (omega (arith, le))

-- Past all trees there is none.
pub typed_past : (rows : TypedNodes) (i : ℕ) → length rows.0 ≤ i → typed_at rows i ≡ NoMore
unfolding typed_at
typed_past rows i le = past (grown typed_of NoMore [] rows.0) i NoMore (grind (arith, length_grown typed_of NoMore [] rows.0, le))

pub code_past : (rows : TypedNodes) (i : ℕ) → length rows.1 ≤ i → typed_code_at rows i ≡ NoMore
unfolding typed_code_at
code_past rows i le =
    past (grown (typed_code_of (typed_at rows)) NoMore [] rows.1) i NoMore
    (grind (arith, length_grown (typed_code_of (typed_at rows)) NoMore [] rows.1, le))

pub second_below : (k i j : ℕ) → IsTrue (nat_lt i k && nat_lt j k) → j < k
second_below k i j e = grind arith
