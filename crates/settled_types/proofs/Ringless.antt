-- Where no type has itself in it, each type is less deep than those that are made of it.
use Rattle.std.proofs.Common.{◌≡◌, ◌⊎◌, inl, inr, ℕ, zero, suc, ◌<◌, ◌≤◌, Bool, true, false, ◌||◌, ◌&&◌, List, [], ◌∷◌, refl, sym, ap, ◌∙◌, arith, length, nat_eq, nat_lt, Option, Some, None, true≢false}
use Rattle.std.specs.Prelude.{slice_get}
use Rattle.std.proofs.lemmas.Bool.{cases_lt}
use Rattle.std.proofs.lemmas.Option.{slice_get_past}
use Rattle.machine.specs.type_definitions.declared.table.Component.{Component}
use Rattle.machine.specs.type_definitions.declared.table.Info.{Info}
use Rattle.machine.specs.type_definitions.declared.table.Shape.{Shape}
use Rattle.machine.specs.type_definitions.declared.table.Shape.TheVariants as shape
use Rattle.machine.specs.type_definitions.Types.{Table, info, info_found, shape_found}
use Rattle.machine.specs.type_definitions.Declarations.{any_of, holds_shape, holds_parent}
use Rattle.type_settled.specs.Orders.{all_ready, shape_ready}
use Rattle.type_settled.specs.Reach.{holds, has_some}
use Rattle.type_settled.specs.Rings.{IsPart, Inside, here, deeper}
use Rattle.type_settled.proofs.Deepest.{deep_enough}
use Rattle.settled_types.specs.Wholes.{written}
use Rattle.settled_types.proofs.Counts.{count, count_less, count_some}

-- ---- tests

pub or_cases : (a b : Bool) → a || b ≡ true → (a ≡ true) ⊎ (b ≡ true)
or_cases true b e = inl refl
or_cases false b e = inr e

pub or_left : (a b : Bool) → a ≡ true → a || b ≡ true
or_left true b e = refl
or_left false b e = absurd (true≢false (sym e))

or_right : (a b : Bool) → b ≡ true → a || b ≡ true
or_right true b e = refl
or_right false b e = e

and_both : (a b : Bool) → a ≡ true → b ≡ true → a && b ≡ true
and_both true b e f = f
and_both false b e f = absurd (true≢false (sym e))

pub itself : (n : ℕ) → nat_eq n n ≡ true
itself n = grind arith

pub is_same : (n m : ℕ) → nat_eq n m ≡ true → n ≡ m
is_same n m e = grind arith

-- ---- what a definition is made of

module _ (f : ℕ → Bool) where
  any_at : (cs : List Component) (v : ℕ) → any_of (λ u. nat_eq u v) cs ≡ true → f v ≡ true → any_of f cs ≡ true
  any_at [] v e ok = e
  any_at (c ∷ rest) v e ok = elim (or_cases (nat_eq c.of v) (any_of (λ u. nat_eq u v) rest) e) [
    | inl now ↦ or_left (f c.of) (any_of f rest) (ap f (is_same c.of v now) ∙ ok)
    | inr there ↦ or_right (f c.of) (any_of f rest) (any_at rest v there ok)
  ]

  holds_at : (s : Shape) (v : ℕ) → holds_shape (λ u. nat_eq u v) s ≡ true → f v ≡ true → holds_shape f s ≡ true
  holds_at (shape.Whole low high) v e ok = e
  holds_at (shape.Listed literals low high) v e ok = e
  holds_at (shape.Access t constant named) v e ok = e
  holds_at (shape.Fields cs) v e ok = any_at cs v e ok
  holds_at (shape.Elements low high t) v e ok = ap f (is_same t v e) ∙ ok
  holds_at (shape.Same t) v e ok = ap f (is_same t v e) ∙ ok

  abbrev Some_in : Shape → Type 0
  Some_in s = (v : ℕ) × (holds_shape (λ u. nat_eq u v) s ≡ true) × (f v ≡ true)

  any_some : (cs : List Component) → any_of f cs ≡ true → Some_in (shape.Fields cs)
  any_some [] e = absurd (true≢false (sym e))
  any_some (c ∷ rest) e = elim (or_cases (f c.of) (any_of f rest) e) [
    | inl now ↦ (c.of, or_left (nat_eq c.of c.of) (any_of (λ u. nat_eq u c.of) rest) (itself c.of), now)
    | inr there ↦
        let r = any_some rest there in
        (r.0, or_right (nat_eq c.of r.0) (any_of (λ u. nat_eq u r.0) rest) r.1, r.2)
  ]

  holds_some : (s : Shape) → holds_shape f s ≡ true → Some_in s
  holds_some (shape.Whole low high) e = absurd (true≢false (sym e))
  holds_some (shape.Listed literals low high) e = absurd (true≢false (sym e))
  holds_some (shape.Access t constant named) e = absurd (true≢false (sym e))
  holds_some (shape.Fields cs) e = any_some cs e
  holds_some (shape.Elements low high t) e = (t, itself t, e)
  holds_some (shape.Same t) e = (t, itself t, e)

  all_all : (cs : List Component) → ((v : ℕ) → any_of (λ u. nat_eq u v) cs ≡ true → f v ≡ true) → all_ready f cs ≡ true
  all_all [] all = refl
  all_all (c ∷ rest) all =
      and_both (f c.of) (all_ready f rest)
      (all c.of (or_left (nat_eq c.of c.of) (any_of (λ u. nat_eq u c.of) rest) (itself c.of)))
      (all_all rest (λ v e. all v (or_right (nat_eq c.of v) (any_of (λ u. nat_eq u v) rest) e)))

  ready_all : (s : Shape) → ((v : ℕ) → holds_shape (λ u. nat_eq u v) s ≡ true → f v ≡ true) → shape_ready f s ≡ true
  ready_all (shape.Whole low high) all = refl
  ready_all (shape.Listed literals low high) all = refl
  ready_all (shape.Access t constant named) all = refl
  ready_all (shape.Fields cs) all = all_all cs all
  ready_all (shape.Elements low high t) all = all t (itself t)
  ready_all (shape.Same t) all = all t (itself t)

  parent_at : (p : Option ℕ) (v : ℕ) → holds_parent (λ u. nat_eq u v) p ≡ true → f v ≡ true → holds_parent f p ≡ true
  parent_at None v e ok = e
  parent_at (Some t) v e ok = ap f (is_same t v e) ∙ ok

  parent_some : (p : Option ℕ) → holds_parent f p ≡ true
      → (v : ℕ) × (holds_parent (λ u. nat_eq u v) p ≡ true) × (f v ≡ true)
  parent_some None e = absurd (true≢false (sym e))
  parent_some (Some t) e = (t, itself t, e)

  info_at : (i : Info) (v : ℕ) → holds true (λ u. nat_eq u v) i ≡ true → f v ≡ true → holds true f i ≡ true
  info_at i v e ok = elim (or_cases (holds_shape (λ u. nat_eq u v) i.shape) (holds_parent (λ u. nat_eq u v) i.parent) e) [
    | inl of ↦ or_left (holds_shape f i.shape) (holds_parent f i.parent) (holds_at i.shape v of ok)
    | inr up ↦ or_right (holds_shape f i.shape) (holds_parent f i.parent) (parent_at i.parent v up ok)
  ]

  info_some : (i : Info) → holds true f i ≡ true → (v : ℕ) × (holds true (λ u. nat_eq u v) i ≡ true) × (f v ≡ true)
  info_some i e = elim (or_cases (holds_shape f i.shape) (holds_parent f i.parent) e) [
    | inl of ↦
        let r = holds_some i.shape of in
        (r.0, or_left (holds_shape (λ u. nat_eq u r.0) i.shape) (holds_parent (λ u. nat_eq u r.0) i.parent) r.1, r.2)
    | inr up ↦
        let r = parent_some i.parent up in
        (r.0, or_right (holds_shape (λ u. nat_eq u r.0) i.shape) (holds_parent (λ u. nat_eq u r.0) i.parent) r.1, r.2)
  ]

-- ---- what is in a type

pub shape_info : (o : Option Info) → shape_found o ≡ (info_found o).shape
shape_info None = refl
shape_info (Some i) = refl

past_part : (table : Table) (t v : ℕ) → length table ≤ t → holds true (λ u. nat_eq u v) (info table t) ≡ false
past_part table t v past = ap (λ o. holds true (λ u. nat_eq u v) (info_found o)) (slice_get_past table t past)

abbrev rank_if : Bool → ℕ → ℕ
rank_if true n = suc n
rank_if false n = 0

module _ (table : Table) where
  abbrev at : ℕ → ℕ → ℕ → Bool
  at n t u = has_some true n (λ v. nat_eq v u) table t

  at_none : (t u : ℕ) → at 0 t u ≡ true → ⊥
  unfolding has_some
  at_none t u e = true≢false (sym e)

  within_at : (n t u : ℕ) → at n t u ≡ true → Inside table u t
  unfolding has_some
  within_at zero t u e = absurd (at_none t u e)
  within_at (suc n) t u e =
      let some = info_some (λ v. nat_eq v u || at n v u) (info table t) e in
      elim (or_cases (nat_eq some.0 u) (at n some.0 u) some.2) [
        | inl now ↦ here t (ap (λ v. holds true (λ u. nat_eq u v) (info table t)) (sym (is_same some.0 u now)) ∙ some.1)
        | inr there ↦ deeper t some.0 some.1 (within_at n some.0 u there)
      ]

  at_next : (n t v u : ℕ) → IsPart table v t → nat_eq v u || at n v u ≡ true → at (suc n) t u ≡ true
  unfolding has_some
  at_next n t v u part e = info_at (λ v. nat_eq v u || at n v u) (info table t) v part e

  abbrev reached : ℕ → ℕ → Bool
  reached t u = at (length table) t u

  reached_part : (t v : ℕ) → IsPart table v t → reached t v ≡ true
  reached_part t v part =
      deep_enough (λ u. nat_eq u v) table 1 t (at_next 0 t v v part (or_left (nat_eq v v) (at 0 v v) (itself v)))

  reached_below : (t v u : ℕ) → IsPart table v t → reached v u ≡ true → reached t u ≡ true
  reached_below t v u part e =
      deep_enough (λ w. nat_eq w u) table (suc (length table)) t
      (at_next (length table) t v u part (or_right (nat_eq v u) (reached v u) e))

  -- ---- ranks

  abbrev pub depth : ℕ → ℕ
  depth t = rank_if (nat_lt t (length table)) (count (reached t) (length table))

  depth_in : (t : ℕ) → t < length table → depth t ≡ suc (count (reached t) (length table))
  depth_in t lt = ap (λ b. rank_if b (count (reached t) (length table))) (is_lt t (length table) lt)
    where
      is_lt : (a b : ℕ) → a < b → nat_lt a b ≡ true
      is_lt a b lt = grind (arith, lt)

  pub depth_past : (t : ℕ) → length table ≤ t → depth t ≡ 0
  depth_past t past = ap (λ b. rank_if b (count (reached t) (length table))) (not_lt t (length table) past)
    where
      not_lt : (a b : ℕ) → b ≤ a → nat_lt a b ≡ false
      not_lt a b le = grind (arith, le)

  pub depth_none : (t : ℕ) → depth t ≤ 0 → length table ≤ t
  depth_none t le = elim (cases_lt t (length table)) [
    | inl lt ↦ let a = depth_in t lt in absurd (omega (arith, a, le))
    | inr past ↦ past
  ]

  module _ (lone : (t : ℕ) → Inside table t t → ⊥) where
    not_itself : (t : ℕ) → reached t t ≡ false
    not_itself t = none (reached t t) (λ e. lone t (within_at (length table) t t e))
      where
        none : (b : Bool) → (b ≡ true → ⊥) → b ≡ false
        none true f = absurd (f refl)
        none false f = refl

    within_table : (t v : ℕ) → IsPart table v t → t < length table
    within_table t v part = elim (cases_lt t (length table)) [
      | inl within ↦ within
      | inr past ↦ absurd (true≢false (sym part ∙ past_part table t v past))
    ]

    lower_in : (t v : ℕ) → IsPart table v t → v < length table → depth v < depth t
    lower_in t v part lt =
        let a = depth_in v lt in
        let b = depth_in t (within_table t v part) in
        let c = count_less (reached v) (reached t) (λ u e. reached_below t v u part e) (length table) v lt (not_itself v) (reached_part t v part) in
        omega (arith, a, b, c)

    lower_past : (t v : ℕ) → IsPart table v t → length table ≤ v → depth v < depth t
    lower_past t v part past =
        let a = depth_past v past in
        let b = depth_in t (within_table t v part) in
        omega (arith, a, b)

    pub lower : (t v : ℕ) → IsPart table v t → depth v < depth t
    lower t v part = elim (cases_lt v (length table)) [ inl lt ↦ lower_in t v part lt | inr past ↦ lower_past t v part past ]

    -- what a definition is made of is less deep
    pub ranked : (t : ℕ) → shape_ready (λ u. nat_lt (depth u) (depth t)) (written table t) ≡ true
    ranked t = ready_all (λ u. nat_lt (depth u) (depth t)) (written table t) (λ v e. less (depth v) (depth t) (lower t v (part v e)))
      where
        less : (a b : ℕ) → a < b → nat_lt a b ≡ true
        less a b lt = grind (arith, lt)

        part : (v : ℕ) → holds_shape (λ u. nat_eq u v) (written table t) ≡ true → IsPart table v t
        part v e =
            or_left (holds_shape (λ u. nat_eq u v) (info table t).shape) (holds_parent (λ u. nat_eq u v) (info table t).parent)
            (ap (holds_shape (λ u. nat_eq u v)) (sym (shape_info (slice_get table t))) ∙ e)

    pub shallow : (t : ℕ) → depth t ≤ length table
    shallow t = elim (cases_lt t (length table)) [
      | inl lt ↦
          let a = depth_in t lt in
          let b = count_some (reached t) (length table) t lt (not_itself t) in
          omega (arith, a, b)
      | inr past ↦ let a = depth_past t past in omega (arith, a)
    ]
