-- A table that is fit has ranks, and is fit by any others that it has.
use Rattle.std.proofs.Common.{◌≡◌, ◌⊎◌, inl, inr, ℕ, ◌<◌, Bool, true, false, ◌&&◌, List, [], ◌∷◌, ◌++◌, refl, subst, arith, length, nat_lt, nat_le, slice_get, Option, Some, None}
use Rattle.std.specs.List.{list_all}
use Rattle.std.proofs.lemmas.Bool.{cases_lt}
use Rattle.std.proofs.lemmas.Option.{slice_get_past}
use Rattle.spark_base.specs.Lists.{Has}
use Rattle.type_definitions.specs.declared.table.Component.{Component}
use Rattle.type_definitions.specs.declared.table.Info.{Info}
use Rattle.type_definitions.specs.declared.table.Shape.{Shape}
use Rattle.type_definitions.specs.declared.table.Shape.TheVariants as shape
use Rattle.type_definitions.specs.Types.{Table, info_found, words}
use Rattle.type_ranks.specs.Ranks.{component_parts, shape_parts, parent_parts, parts, AreRanks}
use Rattle.settled_types.specs.TableLaws.Ranks.{rank, is_below, shape_all, parent_all, is_ranked, is_plain, fits, IsFit}

never : false ≡ true → ⊥
never is = cc

both : (a b : Bool) → a && b ≡ true → (a ≡ true) × (b ≡ true)
both true b is = (refl, is)
both false b is = absurd (never is)

all_of : (a b : Bool) → a ≡ true → b ≡ true → a && b ≡ true
all_of true b first second = second
all_of false b first second = absurd (never first)

less : (a b : ℕ) → nat_lt a b ≡ true → a < b
less a b is = grind (arith, is)

is_less : (a b : ℕ) → a < b → nat_lt a b ≡ true
is_less a b lt = grind (arith, lt)

-- ---- what a type is made of is as asked

has_split : (xs ys : List ℕ) (u : ℕ) → Has (xs ++ ys) u → Has xs u ⊎ Has ys u
has_split [] ys u has = inr has
has_split (x ∷ xs) ys u has = elim has [
  | inl now ↦ inl (inl now)
  | inr later ↦ elim (has_split xs ys u later) [ inl a ↦ inl (inr a) | inr b ↦ inr b ]
]

has_left : (xs ys : List ℕ) (u : ℕ) → Has xs u → Has (xs ++ ys) u
has_left [] ys u has = absurd has
has_left (x ∷ xs) ys u has = elim has [ inl now ↦ inl now | inr later ↦ inr (has_left xs ys u later) ]

has_right : (xs ys : List ℕ) (u : ℕ) → Has ys u → Has (xs ++ ys) u
has_right [] ys u has = has
has_right (x ∷ xs) ys u has = inr (has_right xs ys u has)

module _ (f : ℕ → Bool) where
  components_at : (cs : List Component) (u : ℕ) → list_all (λ (c : Component). f c.of) cs ≡ true → Has (component_parts cs) u → f u ≡ true
  components_at [] u all has = absurd has
  components_at (c ∷ cs) u all has =
      let each = both (f c.of) (list_all (λ (c : Component). f c.of) cs) all in
      elim has [ inl now ↦ subst (λ w. f w ≡ true) now each.0 | inr later ↦ components_at cs u each.1 later ]

  one_at : (t u : ℕ) → f t ≡ true → Has (t ∷ []) u → f u ≡ true
  one_at t u is has = elim has [ inl now ↦ subst (λ w. f w ≡ true) now is | inr none ↦ absurd none ]

  shape_at : (s : Shape) (u : ℕ) → shape_all f s ≡ true → Has (shape_parts s) u → f u ≡ true
  shape_at (shape.Whole low high) u all has = absurd has
  shape_at (shape.Listed literals low high) u all has = absurd has
  shape_at (shape.Access t constant named) u all has = absurd has
  shape_at (shape.Fields cs) u all has = components_at cs u all has
  shape_at (shape.Elements low high t) u all has = one_at t u all has
  shape_at (shape.Same t) u all has = one_at t u all has

  parent_at : (p : Option ℕ) (u : ℕ) → parent_all f p ≡ true → Has (parent_parts p) u → f u ≡ true
  parent_at None u all has = absurd has
  parent_at (Some t) u all has = one_at t u all has

  components_all : (cs : List Component) → ((u : ℕ) → Has (component_parts cs) u → f u ≡ true) → list_all (λ (c : Component). f c.of) cs ≡ true
  components_all [] each = refl
  components_all (c ∷ cs) each =
      all_of (f c.of) (list_all (λ (c : Component). f c.of) cs) (each c.of (inl refl)) (components_all cs (λ u has. each u (inr has)))

  shape_each : (s : Shape) → ((u : ℕ) → Has (shape_parts s) u → f u ≡ true) → shape_all f s ≡ true
  shape_each (shape.Whole low high) each = refl
  shape_each (shape.Listed literals low high) each = refl
  shape_each (shape.Access t constant named) each = refl
  shape_each (shape.Fields cs) each = components_all cs each
  shape_each (shape.Elements low high t) each = each t (inl refl)
  shape_each (shape.Same t) each = each t (inl refl)

  parent_each : (p : Option ℕ) → ((u : ℕ) → Has (parent_parts p) u → f u ≡ true) → parent_all f p ≡ true
  parent_each None each = refl
  parent_each (Some t) each = each t (inl refl)

-- ---- ranks

ranked_at : (ranks : List ℕ) (t : ℕ) (i : Info) (u : ℕ) → is_ranked ranks t i ≡ true → Has (parts i) u → rank ranks u < rank ranks t
ranked_at ranks t i u is has =
    let f : ℕ → Bool = is_below ranks (rank ranks t) in
    let each = both (shape_all f i.shape) (parent_all f i.parent) is in
    less (rank ranks u) (rank ranks t) (elim (has_split (shape_parts i.shape) (parent_parts i.parent) u has) [
      | inl of ↦ shape_at f i.shape u each.0 of
      | inr up ↦ parent_at f i.parent u each.1 up
    ])

ranked_each : (ranks : List ℕ) (t : ℕ) (i : Info) → ((u : ℕ) → Has (parts i) u → rank ranks u < rank ranks t) → is_ranked ranks t i ≡ true
ranked_each ranks t i each =
    let f : ℕ → Bool = is_below ranks (rank ranks t) in
    all_of (shape_all f i.shape) (parent_all f i.parent)
    (shape_each f i.shape (λ u has. is_less (rank ranks u) (rank ranks t) (each u (has_left (shape_parts i.shape) (parent_parts i.parent) u has))))
    (parent_each f i.parent (λ u has. is_less (rank ranks u) (rank ranks t) (each u (has_right (shape_parts i.shape) (parent_parts i.parent) u has))))

module _ (table : Table) where
  fit_at : (ranks : List ℕ) (t : ℕ) (o : Option Info) (u : ℕ) → fits table ranks t o ≡ true → Has (parts (info_found o)) u → rank ranks u < rank ranks t
  fit_at ranks t None u fit has = absurd has
  fit_at ranks t (Some i) u fit has = ranked_at ranks t i u (both (is_ranked ranks t i) (is_plain table i.shape && nat_le (words table t) 65536) fit).0 has

  -- the ranks of a table that is fit
  pub fit_ranks : (fit : IsFit table) → AreRanks table (rank fit.ranks)
  fit_ranks fit t u has = elim (cases_lt t (length table)) [
    | inl within ↦ fit_at fit.ranks t (slice_get table t) u (fit.types t within) has
    | inr past ↦ absurd (subst (λ o. Has (parts (info_found o)) u) (slice_get_past table t past) has)
  ]

  refit : (old new : List ℕ) (t : ℕ) (o : Option Info) → ((u : ℕ) → Has (parts (info_found o)) u → rank new u < rank new t) → fits table old t o ≡ true
      → fits table new t o ≡ true
  refit old new t None each fit = refl
  refit old new t (Some i) each fit =
      all_of (is_ranked new t i) (is_plain table i.shape && nat_le (words table t) 65536) (ranked_each new t i each)
      (both (is_ranked old t i) (is_plain table i.shape && nat_le (words table t) 65536) fit).1

  -- by any other ranks
  pub fit_by : (fit : IsFit table) (ranks : List ℕ) → AreRanks table (rank ranks) → (t : ℕ) → t < length table → fits table ranks t (slice_get table t) ≡ true
  fit_by fit ranks are t within = refit fit.ranks ranks t (slice_get table t) (λ u has. are t u has) (fit.types t within)
