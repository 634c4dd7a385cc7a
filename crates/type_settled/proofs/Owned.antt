-- The types that have a named access type in them are the owning ones.
use Rattle.std.proofs.Common.{◌≡◌, ℕ, zero, suc, Bool, true, false, ◌||◌, List, [], ◌∷◌, map, refl, sym, ap, ◌∙◌, arith, length, get_or, nat_lt, Option, Some, None}
use Rattle.std.specs.Prelude.{slice_get}
use Rattle.type_definitions.specs.declared.table.Component.{Component}
use Rattle.type_definitions.specs.declared.table.Shape.{Shape}
use Rattle.type_definitions.specs.declared.table.Shape.TheVariants as shape
use Rattle.type_definitions.specs.declared.table.Info.{Info}
use Rattle.type_definitions.specs.Types.{Table, info, info_found, shape_found, any_owns, owns_of, owns_within, is_owning}
use Rattle.type_definitions.specs.Declarations.{any_of, holds_shape}
use Rattle.type_settled.specs.declared.measure.Measure.{Measure}
use Rattle.type_settled.specs.Measures.{nothing, marked, IsMeasured}
use Rattle.type_settled.specs.Owners.{is_named, AreOwners}
use Rattle.type_settled.specs.Reach.{has_some, AreFound}
use Rattle.type_settled.proofs.Capped.{owning_measured}
use Rattle.type_settled.proofs.Unsound.{never_shape}

or_false : (a : Bool) → a || false ≡ a
or_false true = refl
or_false false = refl

-- ---- a type that owns is named or has an owning part

module _ (f : ℕ → Bool) where
  any_same : (cs : List Component) → any_owns f cs ≡ any_of f cs
  any_same [] = refl
  any_same (c ∷ rest) = ap (λ b. f c.of || b) (any_same rest)

  owns_same : (s : Shape) → owns_of f s ≡ is_named s || holds_shape f s
  owns_same (shape.Whole low high) = refl
  owns_same (shape.Listed literals low high) = refl
  owns_same (shape.Access t constant named) = sym (or_false named)
  owns_same (shape.Fields cs) = any_same cs
  owns_same (shape.Elements low high t) = refl
  owns_same (shape.Same t) = refl

shape_info : (o : Option Info) → shape_found o ≡ (info_found o).shape
shape_info None = refl
shape_info (Some i) = refl

abbrev named_at : Table → ℕ → Bool
named_at table t = is_named (info table t).shape

owns_some : (n : ℕ) (table : Table) (t : ℕ) → owns_within (suc n) table t ≡ named_at table t || has_some false n (named_at table) table t
unfolding owns_within has_some
owns_some zero table t =
    ap (owns_of (λ u. false)) (shape_info (slice_get table t)) ∙ owns_same (λ u. false) (info table t).shape
    ∙ ap (λ b. named_at table t || b) (never_shape (info table t).shape)
owns_some (suc n) table t =
    let each : owns_within (suc n) table ≡ (λ u. named_at table u || has_some false n (named_at table) table u) =
    λ j u. owns_some n table u j in
    ap (λ f. owns_of f (shape_found (slice_get table t))) each
    ∙ ap (owns_of (λ u. named_at table u || has_some false n (named_at table) table u)) (shape_info (slice_get table t))
    ∙ owns_same (λ u. named_at table u || has_some false n (named_at table) table u) (info table t).shape
    ∙ ap (λ b. named_at table t || b)
    (sym (or_false (holds_shape (λ u. named_at table u || has_some false n (named_at table) table u) (info table t).shape)))

owning_some : (n : ℕ) (table : Table) (t : ℕ) → length table ≡ suc n → is_owning table t ≡ named_at table t || has_some false n (named_at table) table t
unfolding is_owning
owning_some n table t is = ap (λ k. owns_within k table t) is ∙ owns_some n table t

pub none_owned : (t : ℕ) → is_owning [] t ≡ false
unfolding is_owning owns_within
none_owned t = refl

-- ---- marks

named_marked : (table : Table) (u : ℕ) → marked (map (λ i. is_named i.shape) table) u ≡ named_at table u
named_marked [] u = refl
named_marked (i ∷ rest) zero = refl
named_marked (i ∷ rest) (suc u) = named_marked rest u

parts_marked : (values : List Measure) (t : ℕ) → marked (map (λ m. nat_lt 0 m.parts) values) t ≡ nat_lt 0 (get_or values t nothing).parts
parts_marked [] t = refl
parts_marked (m ∷ rest) zero = refl
parts_marked (m ∷ rest) (suc t) = parts_marked rest t

none_owns : (t : ℕ) (made : List Bool) (is : ℕ → Bool) → marked made t ≡ has_some false 0 is [] t → is_owning [] t ≡ named_at [] t || marked made t
unfolding is_owning owns_within has_some
none_owns t made is found = sym found

length_cases : (table : Table) (P : Type 0) → (table ≡ [] → P) → ((n : ℕ) → length table ≡ suc n → P) → P
length_cases [] P none some = none refl
length_cases (i ∷ rest) P none some = some (length rest) refl

pub reached_owners : (table : Table) (marks made : List Bool) → marks ≡ map (λ i. is_named i.shape) table
    → AreFound false (marked marks) table made → AreOwners table made
reached_owners table marks made are found t =
    let same : marked marks ≡ named_at table = λ j u. (ap (λ ms. marked ms u) are ∙ named_marked table u) j in
    length_cases table (is_owning table t ≡ named_at table t || marked made t)
    (λ none.
    let at : marked made t ≡ has_some false 0 (marked marks) [] t =
    found t 0 (omega (arith, ap length none)) ∙ ap (λ ts. has_some false 0 (marked marks) ts t) none in
    rw none (none_owns t made (marked marks) at))
    (λ n is.
    let some : marked made t ≡ has_some false n (named_at table) table t =
    found t n (omega (arith, is)) ∙ ap (λ f. has_some false n f table t) same in
    owning_some n table t is ∙ ap (λ b. named_at table t || b) (sym some))

or_again : (a b c : Bool) → c ≡ a || b → c ≡ a || c
or_again true b c e = e
or_again false b c e = refl

none_named : (t : ℕ) (b : Bool) → b ≡ named_at [] t || b
none_named t b = refl

pub measured_owners : (table : Table) (values : List Measure) (made : List Bool) → IsMeasured (marked []) table values
    → made ≡ map (λ m. nat_lt 0 m.parts) values → AreOwners table made
measured_owners table values made right are t =
    let owns : is_owning table t ≡ marked made t =
    sym (ap (λ ms. marked ms t) are ∙ parts_marked values t
    ∙ owning_measured (marked []) table values t (get_or values t nothing) right refl) in
    length_cases table (is_owning table t ≡ named_at table t || marked made t)
    (λ none. owns ∙ none_named t (marked made t) ∙ ap (λ ts. named_at ts t || marked made t) (sym none))
    (λ n is.
    or_again (named_at table t) (has_some false n (named_at table) table t) (is_owning table t) (owning_some n table t is)
    ∙ ap (λ b. named_at table t || b) owns)
