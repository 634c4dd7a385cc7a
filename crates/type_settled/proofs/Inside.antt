-- Types that have the root of their ring in them, and are in it, have themselves in them.
use Rattle.std.proofs.Common.{◌≡◌, ◌⊎◌, inl, inr, ℕ, zero, suc, ◌<◌, Bool, true, false, ◌||◌, ◌&&◌, List, [], ◌∷◌, refl, sym, ap, ◌∙◌, arith, length, get_or, set, nat_eq, IsTrue, subst}
use Rattle.std.specs.Prelude.{slice_get}
use Rattle.std.proofs.lemmas.Bool.{cases_eq, cases_lt}
use Rattle.std.proofs.lemmas.List.{get_or-set_same, get_or-set_other, set_past}
use Rattle.std.proofs.lemmas.Option.{slice_get-get_or}
use Rattle.type_definitions.specs.declared.table.Component.{Component}
use Rattle.type_definitions.specs.declared.table.Shape.{Shape}
use Rattle.type_definitions.specs.declared.table.Shape.TheVariants as shape
use Rattle.type_definitions.specs.declared.table.Info.{Info}
use Rattle.type_definitions.specs.Types.{Table, base, info, info_found}
use Rattle.type_definitions.specs.Declarations.{any_of, holds_shape, holds_parent, holds_itself}
use Rattle.type_settled.specs.Measures.{marked}
use Rattle.type_settled.specs.Reach.{holds, has_some}
use Rattle.type_settled.specs.Rings.{IsPart, Inside, here, deeper, AreParts, root, is_linked, HaveRoots, AreInRoots, LooksAt, AreInRings}
use Rattle.type_settled.proofs.Deepest.{deep_enough}
use Rattle.type_settled.proofs.Ranked.{base_info}
use Rattle.type_settled.proofs.Reached.{holds_more, or_true, some_found}
use Rattle.type_settled.proofs.Unsound.{part_below, same_number}

eq_same : (a b : ℕ) → nat_eq a b ≡ true → a ≡ b
eq_same a b e = grind (arith, e)

or_first : (a b : Bool) → a ≡ true → a || b ≡ true
or_first a b e = ap (λ c. c || b) e

or_cases : (a b : Bool) → a || b ≡ true → (a ≡ true) ⊎ (b ≡ true)
or_cases true b e = inl refl
or_cases false b e = inr e

-- ---- types in types

pub inside_all : (table : Table) (a b c : ℕ) → Inside table a b → Inside table b c → Inside table a c
inside_all table a b c first (here t p) = deeper t b p first
inside_all table a b c first (deeper t u p rest) = deeper t u p (inside_all table a b u first rest)

module _ (is : ℕ → Bool) (table : Table) where
  one_deeper : (n t u : ℕ) → IsPart table u t → is u || has_some true n is table u ≡ true → has_some true (suc n) is table t ≡ true
  unfolding has_some
  one_deeper n t u p e =
      holds_more (λ v. nat_eq v u) (λ v. is v || has_some true n is table v)
      (λ v same. ap (λ v. is v || has_some true n is table v) (eq_same v u same) ∙ e) true (info table t) p

  inside_some : (a t : ℕ) → is a ≡ true → Inside table a t → (n : ℕ) × (has_some true n is table t ≡ true)
  inside_some a s e (here t p) = (1, one_deeper 0 t a p (or_first (is a) (has_some true 0 is table a) e))
  inside_some a s e (deeper t u p rest) =
      let found = inside_some a u e rest in
      (suc found.0, one_deeper found.0 t u p (or_true (is u) (has_some true found.0 is table u) found.1))

pub inside_itself : (table : Table) (t : ℕ) → base table t ≡ t → Inside table t t → IsTrue (holds_itself table t)
inside_itself table t based inside =
    let is : ℕ → Bool = λ u. nat_eq (base table u) t in
    let found = inside_some is table t t (ap (λ b. nat_eq b t) based ∙ same_number t) inside in
    sym (part_below is table t) ∙ sym (some_found (length table) is table t) ∙ deep_enough is table found.0 t found.1

-- ---- parts

pub part_at : (table : Table) (part t : ℕ) (i : Info) → t < length table → i ≡ get_or table t i
    → holds true (λ u. nat_eq u part) i ≡ true → IsPart table part t
part_at table part t i within at is =
    let found : info table t ≡ i = ap info_found (slice_get-get_or table t i within) ∙ sym at in rw found is

pub shape_part : (table : Table) (part t : ℕ) (s : Shape) → s ≡ (info table t).shape → holds_shape (λ u. nat_eq u part) s ≡ true
    → IsPart table part t
shape_part table part t s at is =
    or_first (holds_shape (λ u. nat_eq u part) (info table t).shape) (true && holds_parent (λ u. nat_eq u part) (info table t).parent)
    (ap (holds_shape (λ u. nat_eq u part)) (sym at) ∙ is)

any_at : (cs : List Component) (k : ℕ) (c : Component) → k < length cs → c ≡ get_or cs k c → any_of (λ u. nat_eq u c.of) cs ≡ true
any_at [] k c lt at = absurd (omega (arith, lt))
any_at (first ∷ rest) zero c lt at =
    or_first (nat_eq first.of c.of) (any_of (λ u. nat_eq u c.of) rest) (ap (λ d. nat_eq d.of c.of) (sym at) ∙ same_number c.of)
any_at (first ∷ rest) (suc k) c lt at =
    or_true (nat_eq first.of c.of) (any_of (λ u. nat_eq u c.of) rest) (any_at rest k c (omega (arith, lt)) at)

pub fields_parts : (table : Table) (t : ℕ) (cs : List Component) → shape.Fields cs ≡ (info table t).shape → AreParts table cs t
fields_parts table t cs at k c lt is = shape_part table c.of t (shape.Fields cs) at (any_at cs k c lt is)

-- ---- marks

module _ (P : ℕ → Type 0) (made : List Bool) where
  marks_step : (after : List Bool) (t : ℕ) → ((u : ℕ) → IsTrue (marked made u) → P u) → P t → after ≡ set made t true
      → (u : ℕ) → IsTrue (marked after u) → P u
  marks_step after t before at is u m = elim (cases_eq u t) [
    | inl e ↦ subst P (sym e) at
    | inr other ↦ before u (sym (get_or-set_other made t u true false other) ∙ sym (ap (λ ms. marked ms u) is) ∙ m)
  ]

mark_stays : (made : List Bool) (t u : ℕ) → IsTrue (marked made u) → IsTrue (marked (set made t true) u)
mark_stays made t u m = elim (cases_eq u t) [
  | inl e ↦
      elim (cases_lt t (length made)) [
        | inl within ↦ ap (marked (set made t true)) e ∙ get_or-set_same made t true false within
        | inr past ↦ ap (λ ms. marked ms u) (set_past made t true past) ∙ m
      ]
  | inr other ↦ get_or-set_other made t u true false other ∙ m
]

-- ---- upward

module _ (table : Table) (roots : List ℕ) (made : List Bool) where
  pub roots_step : (after : List Bool) (part t : ℕ) → HaveRoots table roots made → root roots t ≡ root roots part
      → IsTrue (is_linked roots made part) → IsPart table part t → after ≡ set made t true → HaveRoots table roots after
  roots_step after part t before ring linked p is =
      let at : Inside table (root roots part) t = elim (or_cases (nat_eq part (root roots part)) (marked made part) linked) [
        | inl same ↦ subst (λ r. Inside table r t) (eq_same part (root roots part) same) (here t p)
        | inr m ↦ deeper t part p (before part m)
      ] in
      marks_step (λ u. Inside table (root roots u) u) made after t before (subst (λ r. Inside table r t) (sym ring) at) is

  -- ---- downward

  stays_linked : (t whole : ℕ) → IsTrue (is_linked roots made whole) → IsTrue (is_linked roots (set made t true) whole)
  stays_linked t whole linked = elim (or_cases (nat_eq whole (root roots whole)) (marked made whole) linked) [
    | inl same ↦ or_first (nat_eq whole (root roots whole)) (marked (set made t true) whole) same
    | inr m ↦ or_true (nat_eq whole (root roots whole)) (marked (set made t true) whole) (mark_stays made t whole m)
  ]

  pub looks_step : (after : List Bool) (t whole : ℕ) → LooksAt table roots whole made → root roots t ≡ root roots whole
      → IsPart table t whole → after ≡ set made t true → LooksAt table roots whole after
  looks_step after t whole looks ring p is =
      let at : Inside table t (root roots whole) =
      elim (or_cases (nat_eq whole (root roots whole)) (marked made whole) looks.linked) [
        | inl same ↦ subst (λ r. Inside table t r) (eq_same whole (root roots whole) same) (here whole p)
        | inr m ↦ inside_all table t whole (root roots whole) (here whole p) (looks.right whole m)
      ] in
      record {
        linked = ap (λ ms. is_linked roots ms whole) is ∙ stays_linked t whole looks.linked;
        right =
            marks_step (λ u. Inside table u (root roots u)) made after t looks.right (subst (λ r. Inside table t r) (sym ring) at) is;
      }

-- ---- both

module _ (table : Table) (made : List Bool) where
  pub rings_step : (roots : List ℕ) (up down after : List Bool) (t : ℕ) (i : Info) → HaveRoots table roots up → AreInRoots table roots down
      → AreInRings table made → t < length table → i ≡ get_or table t i → i.base ≡ t → IsTrue (marked up t) → IsTrue (marked down t)
      → after ≡ set made t true → AreInRings table after
  rings_step roots up down after t i has is before within at based upward downward same =
      let found : info table t ≡ i = ap info_found (slice_get-get_or table t i within) ∙ sym at in
      let based : base table t ≡ t = base_info (slice_get table t) ∙ ap (λ i. i.base) found ∙ based in
      let inside : Inside table t t = inside_all table t (root roots t) t (is t downward) (has t upward) in
      marks_step (λ u. IsTrue (holds_itself table u)) made after t before (inside_itself table t based inside) same
