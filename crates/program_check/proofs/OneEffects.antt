-- A program has one list of effects.
use Rattle.std.proofs.Common.{◌≡◌, ◌<◌, ℕ, zero, suc, refl, sym, ap, ◌∙◌, subst, arith, List, [], ◌∷◌, length, get_or}
use Rattle.flow_paths.specs.declared.report.Effects.{Effects}
use Rattle.flow_paths.specs.Laid.{FlowProgram}
use Rattle.flow_paths.specs.Effects.{AreEffects}
use Rattle.sub_summary.proofs.Ascending.{ascending_once}

-- ---- lists of lists

same_at : (xs ys : List (List ℕ)) → length xs ≡ length ys → ((p : ℕ) → p < length xs → get_or xs p [] ≡ get_or ys p []) → xs ≡ ys
same_at [] [] count each = refl
same_at [] (y ∷ ys) count each = let no : ⊥ = omega (arith, count) in absurd no
same_at (x ∷ xs) [] count each = let no : ⊥ = omega (arith, count) in absurd no
same_at (x ∷ xs) (y ∷ ys) count each =
    let first : x ≡ y = each zero (omega (arith)) in
    ap (λ (z : List ℕ). z ∷ xs) first
    ∙ ap (λ (rest : List (List ℕ)). y ∷ rest) (same_at xs ys (omega (arith, count)) (λ p h. each (suc p) (omega (arith, h))))

-- ---- effects

pub one_effects : (program : FlowProgram) (a b : Effects) → AreEffects program a → AreEffects program b → a ≡ b
one_effects program a b one two =
    let read : a.read ≡ b.read =
    same_at a.read b.read (one.read_count ∙ sym two.read_count) (λ p h.
    let within = subst (λ (n : ℕ). p < n) one.read_count h in
    ascending_once _ _ (one.read_order p) (two.read_order p) (λ g has. (two.reads p g within).1 ((one.reads p g within).0 has))
    (λ g has. (one.reads p g within).1 ((two.reads p g within).0 has))) in
    let written : a.written ≡ b.written =
    same_at a.written b.written (one.written_count ∙ sym two.written_count) (λ p h.
    let within = subst (λ (n : ℕ). p < n) one.written_count h in
    ascending_once _ _ (one.written_order p) (two.written_order p) (λ g has. (two.writes p g within).1 ((one.writes p g within).0 has))
    (λ g has. (one.writes p g within).1 ((two.writes p g within).0 has))) in
    λ i. record { read = read i; written = written i }
