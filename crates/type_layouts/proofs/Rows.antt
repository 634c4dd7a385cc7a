-- What is kept of types, one after the other.
use Rattle.std.proofs.Common.{◌≡◌, ℕ, zero, suc, ◌+◌, List, [], ◌∷◌, ◌++◌, length, Some, slice_get, sym, subst, arith}
use Rattle.type_definitions.specs.Types.{Table}
use Rattle.type_layouts.specs.declared.layouts.Layout.{Layout}
use Rattle.type_layouts.specs.Layouts.{IsLaid, AreLaid}

-- One more is kept.
pub laid_more : (table : Table) (t : ℕ) (rows : List Layout) (l : Layout) → AreLaid table t rows → IsLaid table (t + length rows) l → AreLaid table t (rows ++ l ∷ [])
laid_more table t [] l all is = (subst (λ k. IsLaid table k l) (let same : t + 0 ≡ t = omega arith in same) is, tt)
laid_more table t (r ∷ rows) l all is =
    (all.0, laid_more table (suc t) rows l all.1 (subst (λ k. IsLaid table k l) (let same : t + suc (length rows) ≡ suc t + length rows = omega arith in same) is))

some_is : (a b : Layout) → Some a ≡ Some b → a ≡ b
some_is a b is = cc

-- What is kept of one.
pub laid_at : (table : Table) (t i : ℕ) (rows : List Layout) (l : Layout) → AreLaid table t rows → slice_get rows i ≡ Some l → IsLaid table (t + i) l
laid_at table t i [] l all is = cc
laid_at table t zero (r ∷ rows) l all is =
    subst (λ k. IsLaid table k l) (let same : t ≡ t + 0 = omega arith in same) (subst (λ r. IsLaid table t r) (some_is r l is) all.0)
laid_at table t (suc i) (r ∷ rows) l all is =
    subst (λ k. IsLaid table k l) (let same : suc t + i ≡ t + suc i = omega arith in same) (laid_at table (suc t) i rows l all.1 is)

-- By the view of a table.
pub laid_here : (table whole : Table) (t : ℕ) (rows items : List Layout) (l : Layout) → table ≡ whole → items ≡ rows → AreLaid table 0 rows → slice_get items t ≡ Some l
    → IsLaid whole t l
laid_here table whole t rows items l same is all there =
    subst (λ w. IsLaid w t l) same
    (subst (λ k. IsLaid table k l) (let same : 0 + t ≡ t = omega arith in same)
    (laid_at table 0 t items l (subst (AreLaid table 0) (sym is) all) there))
