-- The path outwards from a scope.
use Rattle.std.proofs.Common.{◌≡◌, refl, sym, ap, ◌∙◌, true≢false, eqb-true, eq-eqb, ℕ, zero, suc, ◌==◌, Bool, true, false, ◌||◌, List}
use Rattle.flow_paths.specs.Views.{encloses_within}
use Rattle.traversal_funcs.specs.Scopes.{around}

-- a scope that isn't the one looked for, and that no other is around, isn't in it
pub outermost : (steps : ℕ) (scopes : List ℕ) (a b : ℕ) → (a == b) ≡ false → around scopes b ≡ b → encloses_within steps scopes a b ≡ false
unfolding encloses_within
outermost zero scopes a b other none = other
outermost (suc steps) scopes a b other none =
    ap (λ t. t || encloses_within steps scopes a (around scopes b)) other
    ∙ ap (encloses_within steps scopes a) none ∙ outermost steps scopes a b other none

-- one step further
pub outwards : (steps : ℕ) (scopes : List ℕ) (a b : ℕ) → (a == b) ≡ false
    → encloses_within (suc steps) scopes a b ≡ encloses_within steps scopes a (around scopes b)
unfolding encloses_within
outwards steps scopes a b other = ap (λ t. t || encloses_within steps scopes a (around scopes b)) other

-- no step is left
pub arrived : (scopes : List ℕ) (a b : ℕ) → encloses_within 0 scopes a b ≡ (a == b)
unfolding encloses_within
arrived scopes a b = refl

-- the scope itself
pub here : (steps : ℕ) (scopes : List ℕ) (a b : ℕ) → (a == b) ≡ true → encloses_within steps scopes a b ≡ true
unfolding encloses_within
here zero scopes a b same = same
here (suc steps) scopes a b same = ap (λ t. t || encloses_within steps scopes a (around scopes b)) same

-- one step less is left after it
pub goes_outwards : (steps next : ℕ) (scopes : List ℕ) (a b : ℕ) → steps ≡ suc next → (a == b) ≡ false
    → encloses_within next scopes a (around scopes b) ≡ encloses_within steps scopes a b
goes_outwards steps next scopes a b is other = sym (ap (λ n. encloses_within n scopes a b) is ∙ outwards next scopes a b other)

-- two scopes aren't the same
pub differ : (a b : ℕ) → (b ≡ a → ⊥) → (a == b) ≡ false
differ a b other = by (a == b) refl
  where
    by : (t : Bool) → (a == b) ≡ t → t ≡ false
    by true e = absurd (other (sym (eqb-true a b e)))
    by false e = refl

turned : (a b : ℕ) → (b == a) ≡ (a == b)
turned a b = by (a == b) refl
  where
    by : (t : Bool) → (a == b) ≡ t → (b == a) ≡ t
    by true e = eq-eqb b a (sym (eqb-true a b e))
    by false e = differ b a (λ same. true≢false (sym (eq-eqb a b same) ∙ e))

-- the path ends where the scope is found, or no step is left
pub ends_found : (steps : ℕ) (scopes : List ℕ) (a b : ℕ) → b ≡ a → (b == a) ≡ encloses_within steps scopes a b
ends_found steps scopes a b same = eq-eqb b a same ∙ sym (here steps scopes a b (eq-eqb a b (sym same)))

pub ends_far : (steps : ℕ) (scopes : List ℕ) (a b : ℕ) → steps ≡ 0 → (b == a) ≡ encloses_within steps scopes a b
ends_far steps scopes a b none = turned a b ∙ sym (ap (λ n. encloses_within n scopes a b) none ∙ arrived scopes a b)
