-- Where points begin.
use Rattle.std.proofs.Common.{◌≡◌, ℕ, zero, suc, List, [], ◌∷◌, length, get_or, refl, arith}
use Rattle.numbered_points.specs.Prepared.{next_of}

pub only : (here : List ℕ) → length here ≡ 1 → here ≡ get_or here 0 0 ∷ []
only [] e = absurd (omega (arith, e))
only (a ∷ []) e = refl
only (a ∷ b ∷ rest) e = absurd (omega (arith, e))

pub begin_here : (m : ℕ) (here k : List ℕ) → length here ≡ 1 → (m ≡ 0 → ⊥) → here ≡ next_of m (get_or here 0 0) k
begin_here zero here k e some = absurd (some refl)
begin_here (suc m) here k e some = only here e

pub begin_behind : (m : ℕ) (here k : List ℕ) → m ≡ 0 → k ≡ next_of m (get_or here 0 0) k
begin_behind zero here k e = refl
begin_behind (suc m) here k e = absurd (omega (arith, e))

pub ruleset begins = (begin_here, begin_behind)
