-- Orders by one part and then another, and what such an order doesn't tell apart.
use Rattle.std.proofs.Common.{◌≡◌, ◌⊎◌, inl, inr, ◌<◌, ◌==◌, ℕ, List, [], ◌∷◌, cond, refl, sym, ap, lt-ltb}
use Rattle.std.specs.declared.cmp.Ordering.{Ordering}
use Rattle.std.specs.declared.cmp.Ordering.TheVariants.{Less, Equal, Greater}
use Rattle.std.specs.Ordering.{ordering_then, nat_cmp}
use Rattle.std.specs.Cmp.Lexicographic.{slice_cmp}
use Rattle.std.proofs.lemmas.Cmp.{ranked}

-- ---- one part and then another

pub then_equal : (a b : Ordering) → ordering_then a b ≡ Equal → (a ≡ Equal) × (b ≡ Equal)
then_equal Less b e = cc
then_equal Equal b e = (refl, e)
then_equal Greater b e = cc

pub then_less : (a b : Ordering) → ordering_then a b ≡ Less → (a ≡ Less) ⊎ ((a ≡ Equal) × (b ≡ Less))
then_less Less b e = inl refl
then_less Equal b e = inr (refl, e)
then_less Greater b e = cc

-- an order in which a part is left out, where that part tells nothing more apart
pub then_mapped : (a b c : Ordering) → (a ≡ Equal → b ≡ Less → c ≡ Less) → ordering_then a b ≡ Less → ordering_then a c ≡ Less
then_mapped Less b c f e = refl
then_mapped Equal b c f e = f refl e
then_mapped Greater b c f e = cc

-- ---- numbers and lists

pub nat_cmp-equal : (x y : ℕ) → nat_cmp x y ≡ Equal → x ≡ y
nat_cmp-equal x y e = ranked x y Equal (sym e)

pub nat_cmp-less : (x y : ℕ) → nat_cmp x y ≡ Less → x < y
nat_cmp-less x y e = ranked x y Less (sym e)

pub less-nat_cmp : (x y : ℕ) → x < y → nat_cmp x y ≡ Less
less-nat_cmp x y l = ap (λ b. cond b Less (cond (x == y) Equal Greater)) (lt-ltb x y l)

pub slice_cmp-equal : {A : Type 0} (R : A → A → Ordering) → ((x y : A) → R x y ≡ Equal → x ≡ y)
    → (xs ys : List A) → slice_cmp R xs ys ≡ Equal → xs ≡ ys
slice_cmp-equal R same [] [] e = refl
slice_cmp-equal R same [] (y ∷ ys) e = cc
slice_cmp-equal R same (x ∷ xs) [] e = cc
slice_cmp-equal R same (x ∷ xs) (y ∷ ys) e =
    let both = then_equal (R x y) (slice_cmp R xs ys) e in
    let first = same x y both.0 in
    let rest = slice_cmp-equal R same xs ys both.1 in
    λ i. first i ∷ rest i
