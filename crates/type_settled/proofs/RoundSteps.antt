-- One more round measures one level deeper.
use Rattle.std.proofs.Common.{◌≡◌, ℕ, zero, suc, ◌+◌, ◌-◌, ◌≤◌, Bool, List, [], ◌∷◌, map, refl, sym, ap, ◌∙◌, arith, get_or, length}
use Rattle.type_definitions.specs.Types.{Table, info}
use Rattle.type_settled.specs.declared.measure.Measure.{Measure}
use Rattle.type_settled.specs.Measures.{nothing, measured, marked, info_measure, part_of, part_in}
use Rattle.type_settled.proofs.Measured.{measured_step, measured_zero}

round_at : (part : ℕ → Measure) (table : Table) (t : ℕ) → get_or (map (info_measure part) table) t nothing ≡ info_measure part (info table t)
round_at part [] t = refl
round_at part (i ∷ rest) zero = refl
round_at part (i ∷ rest) (suc t) = round_at part rest t

pub round_first : (is : ℕ → Bool) (table : Table) (t : ℕ) → get_or [] t nothing ≡ measured is 0 table t
round_first is table t = sym (measured_zero is table t)

pub round_step : (marks : List Bool) (table : Table) (values after : List Measure) (n k : ℕ)
    → ((t : ℕ) → get_or values t nothing ≡ measured (marked marks) n table t) → after ≡ map (info_measure (part_in marks values)) table
    → k ≡ n + 1 → (t : ℕ) → get_or after t nothing ≡ measured (marked marks) k table t
round_step marks table values after n k same is next t =
    let next : k ≡ suc n = omega (arith, next) in
    ap (λ ms. get_or ms t nothing) is ∙ round_at (part_in marks values) table t
    ∙ ap (λ f. info_measure (part_of (marked marks) f) (info table t)) (λ j u. same u j)
    ∙ measured_step (marked marks) n table t ∙ ap (λ n. measured (marked marks) n table t) (sym next)

-- ---- a round that changes nothing

module _ (is : ℕ → Bool) (table : Table) (n : ℕ) (same : (t : ℕ) → measured is n table t ≡ measured is (suc n) table t) where
  deeper_same : (k t : ℕ) → measured is (k + n) table t ≡ measured is n table t
  deeper_same zero t = ap (λ m. measured is m table t) (none_before n)
    where
      none_before : (n : ℕ) → 0 + n ≡ n
      none_before n = omega arith
  deeper_same (suc k) t =
      ap (λ m. measured is m table t) (one_before k n) ∙ sym (measured_step is (k + n) table t)
      ∙ ap (λ f. info_measure (part_of is f) (info table t)) (λ j u. deeper_same k u j)
      ∙ measured_step is n table t ∙ sym (same t)
    where
      one_before : (k n : ℕ) → suc k + n ≡ suc (k + n)
      one_before k n = omega arith

pub round_last : (is : ℕ → Bool) (table : Table) (values after : List Measure) (n m : ℕ)
    → ((t : ℕ) → get_or values t nothing ≡ measured is n table t) → ((t : ℕ) → get_or after t nothing ≡ measured is m table t)
    → m ≡ n + 1 → ((t : ℕ) → get_or values t nothing ≡ get_or after t nothing) → n ≤ length table
    → (t : ℕ) → get_or after t nothing ≡ measured is (length table) table t
round_last is table values after n m before behind next same le t =
    let next : m ≡ suc n = omega (arith, next) in
    let k : ℕ = length table - n in
    let whole : k + n ≡ length table = omega (arith, le) in
    let still : (t : ℕ) → measured is n table t ≡ measured is (suc n) table t =
    λ t. sym (before t) ∙ same t ∙ behind t ∙ ap (λ m. measured is m table t) next in
    sym (same t) ∙ before t ∙ sym (deeper_same is table n still k t) ∙ ap (λ m. measured is m table t) whole
