-- What excuses no leak check: a move on one of two branches, a check that no path reaches, and the
-- move of some element.
use Rattle.std.proofs.Common.{◌≡◌, refl, inl, inr, ℕ, zero, suc, ◌<◌, List, [], ◌∷◌, arith}
use Rattle.spark_base.specs.Lists.{Has}
use Rattle.place_names.specs.declared.selector.Sel.TheVariants.{Elem}
use Rattle.place_names.specs.Names.{object}
use Rattle.resolved_tree.specs.Trees.{Program}
use Rattle.flow_paths.specs.Paths.{PathPoint, path_point, ControlPath, begins, goes_on}
use Rattle.flow_paths.specs.Effects.{path_points, flow_sub_at}
use Rattle.flow_paths.specs.LeakPlan.{IsExcused}
use Rattle.flow_tests.proofs.Flow.{flow, laying, leaks, spot, part}
use Rattle.flow_tests.proofs.Reported.{no_effects}
use Rattle.leak_tests.proofs.Sources.{branch, unreached, element}

abbrev points : Program → List PathPoint
points p = path_points (flow p) no_effects (flow_sub_at (flow p) 1)

-- ---- a fact of one branch

-- X is 1, Y is 2. Point 2 is the test, 3 is `Y := X;`, 4 is `X := null;`.
branch_checks : leaks branch ≡ []
    ∷ (spot 16 21 (object 2) 1 ∷ spot 16 37 (object 1) 0 ∷ spot 17 1 (object 2) 0 ∷ spot 17 1 (object 1) 0 ∷ []) ∷ []
unfolding laying
branch_checks = refl

past_branch : ControlPath (points branch) (2 ∷ 1 ∷ 0 ∷ []) 4
unfolding laying
past_branch = goes_on (1 ∷ 0 ∷ []) 2 4 (goes_on (0 ∷ []) 1 2 (goes_on [] 0 1 (begins tt) (inl refl)) (inl refl)) (inr (inl refl))

not_on_both : IsExcused (points branch) 4 (spot 16 37 (object 1) 0) → ⊥
unfolding laying
not_on_both x = x.moved (2 ∷ 1 ∷ 0 ∷ []) past_branch

-- ---- a check that no path reaches

-- Point 2 is `Y := X;`, 3 is the statement of the loop, 4 is `X := null;`.
unreached_checks : leaks unreached ≡ []
    ∷ (spot 16 1 (object 2) 1 ∷ spot 16 30 (object 1) 0 ∷ spot 17 1 (object 2) 0 ∷ spot 17 1 (object 1) 0 ∷ []) ∷ []
unfolding laying
unreached_checks = refl

stays : (a b : ℕ) → a < 4 → Has (path_point (points unreached) a).next b → b < 4
unfolding laying
stays zero b h edge = elim edge [ inl e ↦ omega (arith, e) | inr none ↦ absurd none ]
stays (suc zero) b h edge = elim edge [ inl e ↦ omega (arith, e) | inr none ↦ absurd none ]
stays (suc (suc zero)) b h edge = elim edge [ inl e ↦ omega (arith, e) | inr none ↦ absurd none ]
stays (suc (suc (suc zero))) b h edge = elim edge [ inl e ↦ omega (arith, e) | inr none ↦ absurd none ]
stays (suc (suc (suc (suc a)))) b h edge = absurd (omega arith)

within : (before : List ℕ) (p : ℕ) → ControlPath (points unreached) before p → p < 4
within before' p' (begins some) = omega arith
within before' p' (goes_on before a b path edge) = stays a b (within before a path) edge

not_reached : IsExcused (points unreached) 4 (spot 16 30 (object 1) 0) → ⊥
not_reached x = (let few : 4 < 4 = within x.reached.before 4 x.reached.path in absurd (omega (arith, few)))

-- ---- an element

-- R is 1, X is 2.
element_checks : leaks element ≡ []
    ∷ (spot 16 1 (object 2) 1 ∷ spot 16 13 (part 1 (Elem ∷ [])) 0 ∷ spot 17 1 (object 2) 0 ∷ spot 17 1 (part 1 (Elem ∷ [])) 0 ∷ []) ∷ []
unfolding laying
element_checks = refl

not_definite : IsExcused (points element) 3 (spot 16 13 (part 1 (Elem ∷ [])) 0) → ⊥
not_definite x = (let definite = x.definite in cc)
