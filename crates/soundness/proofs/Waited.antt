-- The values that wait match the temporaries in scope.
use Rattle.std.proofs.Common.{◌≡◌, refl, sym, ap, ◌∙◌, ◌⊎◌, inl, inr, ℕ, zero, suc, ◌≤◌, Bool, true, false, ◌||◌, ◌==◌, eqb-true, List, [], ◌∷◌, ◌++◌, take, drop, arith, Some}
use Rattle.std.proofs.lemmas.List.Folds.{list_any-append}
use Rattle.std.proofs.lemmas.Bool.{false≢true}
use Rattle.machine.specs.flow_paths.Instructions.{Instruction, Call, Evaluate}
use Rattle.machine.specs.flow_paths.Objects.{Typing}
use Rattle.machine.specs.flow_paths.Scopes.{is_within}
use Rattle.soundness.specs.Sound.{is_temporary_object, temporaries_in}
use Rattle.soundness.proofs.Contents.{bool_cases}

-- ---- lists

split_list : {A : Type 0} (k : ℕ) (xs : List A) → take k xs ++ drop k xs ≡ xs
split_list zero [] = refl
split_list zero (x ∷ xs) = refl
split_list (suc k) [] = refl
split_list (suc k) (x ∷ xs) = ap (λ z. x ∷ z) (split_list k xs)

-- ---- how many temporaries are in scope

module _ (s : Typing) where
  pub temporary_more : (x : ℕ) (scope : List ℕ) → is_temporary_object s x ≡ true → temporaries_in s (x ∷ scope) ≡ suc (temporaries_in s scope)
  temporary_more x scope is = rw is refl

  pub plain_more : (x : ℕ) (scope : List ℕ) → is_temporary_object s x ≡ false → temporaries_in s (x ∷ scope) ≡ temporaries_in s scope
  plain_more x scope isnt = rw isnt refl

  -- ---- what is taken

  few : (k : ℕ) (scope : List ℕ) → temporaries_in s (take k scope) ≤ k
  few zero [] = omega arith
  few zero (x ∷ scope) = omega arith
  few (suc k) [] = omega arith
  few (suc k) (x ∷ scope) =
      let later = few k scope in
      elim (bool_cases (is_temporary_object s x)) [
        | inl is ↦ (let more = temporary_more x (take k scope) is in omega (arith, more, later))
        | inr isnt ↦ (let more = plain_more x (take k scope) isnt in omega (arith, more, later))
      ]

  either_true : (a b : Bool) → a || b ≡ true → (a ≡ true) ⊎ (b ≡ true)
  either_true true b e = inl refl
  either_true false b e = inr e

  -- what is taken are temporaries
  taken_temporary : (k : ℕ) (scope : List ℕ) → temporaries_in s (take k scope) ≡ k → (x : ℕ) → is_within x (take k scope) ≡ true → is_temporary_object s x ≡ true
  taken_temporary zero [] all x within = absurd (false≢true within)
  taken_temporary zero (y ∷ scope) all x within = absurd (false≢true within)
  taken_temporary (suc k) [] all x within = absurd (false≢true within)
  taken_temporary (suc k) (y ∷ scope) all x within = elim (bool_cases (is_temporary_object s y)) [
    | inr isnt ↦ (
        let less = few k scope in
        let more = plain_more y (take k scope) isnt in absurd (omega (arith, all, less, more)))
    | inl is ↦ (
        let more = temporary_more y (take k scope) is in
        elim (either_true (x == y) (is_within x (take k scope)) within) [
          | inl same ↦ ap (is_temporary_object s) (eqb-true x y same) ∙ is
          | inr later ↦ taken_temporary k scope (omega (arith, all, more)) x later
        ])
  ]

  -- What is in scope is taken, or left.
  pub within_left : (k : ℕ) (scope : List ℕ) → temporaries_in s (take k scope) ≡ k → (x : ℕ) → is_within x scope ≡ true
      → (is_temporary_object s x ≡ true) ⊎ (is_within x (drop k scope) ≡ true)
  within_left k scope all x within =
      elim (either_true (is_within x (take k scope)) (is_within x (drop k scope))
      (sym (list_any-append (λ y. x == y) (take k scope) (drop k scope)) ∙ ap (is_within x) (split_list k scope) ∙ within)) [
        | inl there ↦ inl (taken_temporary k scope all x there)
        | inr left ↦ inr left
      ]

  -- ---- what is brought

  -- An instruction that fills no temporary.
  abbrev pub FillsNone : Instruction → Type 0
  FillsNone (Call sub actuals (Some t)) = ⊥
  FillsNone (Evaluate t e left) = ⊥
  FillsNone i = Unit {0}
