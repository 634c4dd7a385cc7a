-- Where no type has itself in it, a depth greater than that of a type changes nothing.
use Rattle.std.proofs.Common.{◌≡◌, ◌<◌, ◌+◌, ◌*◌, ◌++◌, ◌&&◌, ℕ, zero, suc, Bool, not, List, [], ◌∷◌, map, sum, IsTrue, nat_lt, refl, sym, ap, ◌∙◌, arith}
use Rattle.std.specs.Prelude.{slice_get}
use Rattle.place_names.specs.declared.selector.Sel.{Sel}
use Rattle.place_names.specs.declared.selector.Sel.TheVariants.{Field, Elem}
use Rattle.type_definitions.specs.declared.table.Component.{Component}
use Rattle.type_definitions.specs.declared.table.Shape.{Shape}
use Rattle.type_definitions.specs.declared.table.Shape.TheVariants as shape
use Rattle.type_definitions.specs.Types.{Table, shape_found, is_nil, span, words_of, words_within, numbered, parts_of, parts_within, owns_within}
use Rattle.type_settled.specs.Orders.{all_ready, shape_ready}
use Rattle.type_settled.proofs.Owning.{owns_depth}

-- What a type is made of has a lower rank: so no type has itself in it.
abbrev pub IsRanked : (ℕ → ℕ) → Table → Type 0
IsRanked rank table = (t : ℕ) → IsTrue (shape_ready (λ u. nat_lt (rank u) (rank t)) (shape_found (slice_get table t)))

and_first : (a b : Bool) → IsTrue (a && b) → IsTrue a
and_first a b p = grind arith

and_second : (a b : Bool) → IsTrue (a && b) → IsTrue b
and_second a b p = grind arith

module _ (f g : ℕ → ℕ) (low : ℕ → Bool) (same : (t : ℕ) → IsTrue (low t) → f t ≡ g t) where
  words_each : (cs : List Component) → IsTrue (all_ready low cs) → map (λ c. f c.of) cs ≡ map (λ c. g c.of) cs
  words_each [] all = refl
  words_each (c ∷ rest) all =
      ap (λ w. w ∷ map (λ c. f c.of) rest) (same c.of (and_first (low c.of) (all_ready low rest) all))
      ∙ ap (λ ws. g c.of ∷ ws) (words_each rest (and_second (low c.of) (all_ready low rest) all))

  pub words_same : (s : Shape) → IsTrue (shape_ready low s) → words_of f s ≡ words_of g s
  words_same (shape.Whole a b) all = refl
  words_same (shape.Listed literals a b) all = refl
  words_same (shape.Access t constant named) all = refl
  words_same (shape.Fields cs) all = ap sum (words_each cs all)
  words_same (shape.Elements a b t) all = ap (λ w. span a b * w) (same t all)
  words_same (shape.Same t) all = same t all

module _ (f g : ℕ → List (List Sel)) (low : ℕ → Bool) (same : (t : ℕ) → IsTrue (low t) → f t ≡ g t) where
  parts_each : (i : ℕ) (cs : List Component) → IsTrue (all_ready low cs) → numbered i f cs ≡ numbered i g cs
  parts_each i [] all = refl
  parts_each i (c ∷ rest) all =
      ap (λ qs. map (λ q. Field i ∷ q) qs ++ numbered (i + 1) f rest) (same c.of (and_first (low c.of) (all_ready low rest) all))
      ∙ ap (λ qs. map (λ q. Field i ∷ q) (g c.of) ++ qs) (parts_each (i + 1) rest (and_second (low c.of) (all_ready low rest) all))

  pub parts_same : (s : Shape) → IsTrue (shape_ready low s) → parts_of f s ≡ parts_of g s
  parts_same (shape.Whole a b) all = refl
  parts_same (shape.Listed literals a b) all = refl
  parts_same (shape.Access t constant named) all = refl
  parts_same (shape.Fields cs) all = parts_each 0 cs all
  parts_same (shape.Elements a b t) all = ap (λ qs. map (λ q. Elem ∷ q) qs) (same t all)
  parts_same (shape.Same t) all = same t all

lower : (u t n : ℕ) → IsTrue (nat_lt u t) → t < suc n → u < n
lower u t n low lt = grind (arith, low, lt)

pub words_deeper : (rank : ℕ → ℕ) (table : Table) → IsRanked rank table → (n t : ℕ) → rank t < n
    → words_within (suc n) table t ≡ words_within n table t
unfolding words_within
words_deeper rank table ranked zero t lt = absurd (omega (arith, lt))
words_deeper rank table ranked (suc n) t lt =
    words_same (words_within (suc n) table) (words_within n table) (λ u. nat_lt (rank u) (rank t))
    (λ u low. words_deeper rank table ranked n u (lower (rank u) (rank t) n low lt)) (shape_found (slice_get table t)) (ranked t)

pub parts_deeper : (rank : ℕ → ℕ) (table : Table) → IsRanked rank table → (n t : ℕ) → rank t < n
    → parts_within (suc n) table t ≡ parts_within n table t
unfolding parts_within
parts_deeper rank table ranked zero t lt = absurd (omega (arith, lt))
parts_deeper rank table ranked (suc n) t lt =
    parts_same (parts_within (suc n) table) (parts_within n table) (λ u. nat_lt (rank u) (rank t))
    (λ u low. parts_deeper rank table ranked n u (lower (rank u) (rank t) n low lt)) (shape_found (slice_get table t)) (ranked t)

pub owns_deeper : (rank : ℕ → ℕ) (table : Table) → IsRanked rank table → (n t : ℕ) → rank t < n
    → owns_within (suc n) table t ≡ owns_within n table t
owns_deeper rank table ranked n t lt =
    owns_depth (suc n) table t ∙ ap (λ qs. not (is_nil qs)) (parts_deeper rank table ranked n t lt) ∙ sym (owns_depth n table t)
