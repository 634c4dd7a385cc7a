-- Facts that are marked, by their numbers.
use Rattle.std.proofs.Common.{◌≡◌, refl, inl, inr, ℕ, zero, suc, ◌<◌, Bool, true, false, List, [], ◌∷◌, length, arith}
use Rattle.spark_base.specs.Lists.{Has}
use Rattle.place_names.specs.declared.fact.Fact.{Fact}
use Rattle.state_trees.specs.FactStates.{marked, at}
use Rattle.point_states.specs.PointTrees.{fact_at}

-- a fact of a list has a number
pub record IsAt (facts : List Fact) (f : Fact) (i : ℕ) : Type 0 where
  pub within : i < length facts
  pub is : fact_at facts i ≡ f

first_at : (g f : Fact) (facts : List Fact) → g ≡ f → IsAt (g ∷ facts) f 0
first_at g f facts e = record { within = omega arith; is = e }

later_at : (g f : Fact) (facts : List Fact) (i : ℕ) → IsAt facts f i → IsAt (g ∷ facts) f (suc i)
later_at g f facts i n = (let h = n.within in record { within = omega arith; is = n.is })

pub has_number : (facts : List Fact) (f : Fact) → Has facts f → (i : ℕ) × IsAt facts f i
has_number [] f h = absurd h
has_number (g ∷ facts) f h = elim h [
  | inl e ↦ (0, first_at g f facts e)
  | inr h ↦ (let n = has_number facts f h in (suc n.0, later_at g f facts n.0 n.1))
]

pub number_has : (facts : List Fact) (i : ℕ) → i < length facts → Has facts (fact_at facts i)
number_has [] i h = absurd (omega arith)
number_has (g ∷ facts) zero h = inl refl
number_has (g ∷ facts) (suc i) h = inr (number_has facts i (omega arith))

-- a mark is there exactly where its fact is among the marked ones, under some number
pub marked_number : (facts : List Fact) (marks : List Bool) (f : Fact) → Has (marked facts marks) f
    → (i : ℕ) × IsAt facts f i × (at marks i ≡ true)
marked_number [] marks f h = absurd h
marked_number (g ∷ facts) [] f h = absurd h
marked_number (g ∷ facts) (true ∷ marks) f h = elim h [
  | inl e ↦ (0, first_at g f facts e, refl)
  | inr h ↦ (let n = marked_number facts marks f h in (suc n.0, later_at g f facts n.0 n.1, n.2))
]
marked_number (g ∷ facts) (false ∷ marks) f h =
    let n = marked_number facts marks f h in (suc n.0, later_at g f facts n.0 n.1, n.2)

pub number_marked : (facts : List Fact) (marks : List Bool) (i : ℕ) → i < length facts → at marks i ≡ true
    → Has (marked facts marks) (fact_at facts i)
number_marked [] marks i h m = absurd (omega arith)
number_marked (g ∷ facts) [] i h m = cc
number_marked (g ∷ facts) (true ∷ marks) zero h m = inl refl
number_marked (g ∷ facts) (false ∷ marks) zero h m = cc
number_marked (g ∷ facts) (true ∷ marks) (suc i) h m = inr (number_marked facts marks i (omega arith) m)
number_marked (g ∷ facts) (false ∷ marks) (suc i) h m = number_marked facts marks i (omega arith) m
