-- Types that are made of types with a lower rank alone don't have themselves in them.
use Rattle.std.proofs.Common.{◌≡◌, ◌⊎◌, inl, inr, ℕ, zero, suc, ◌<◌, ◌≤◌, Bool, true, false, ◌&&◌, ◌||◌, List, [], ◌∷◌, refl, sym, ap, ◌∙◌, arith, length, get_or, set, replicate, nat_eq, nat_lt, ◌+◌, IsTrue, Option, Some, None, true≢false}
use Rattle.std.specs.Prelude.{slice_get}
use Rattle.std.proofs.lemmas.Bool.{cases_eq, cases_lt}
use Rattle.std.proofs.lemmas.List.{length-replicate, get_or-replicate, get_or-set_other, get_or_past}
use Rattle.std.proofs.lemmas.Option.{slice_get-get_or, slice_get_past}
use Rattle.type_definitions.specs.declared.table.Component.{Component}
use Rattle.type_definitions.specs.declared.table.Shape.{Shape}
use Rattle.type_definitions.specs.declared.table.Shape.TheVariants as shape
use Rattle.type_definitions.specs.declared.table.Info.{Info}
use Rattle.type_definitions.specs.Types.{Table, base, base_found, info, info_found, shape_found}
use Rattle.type_definitions.specs.Declarations.{any_of, holds_shape, holds_parent, some_part, holds_itself}
use Rattle.type_settled.specs.Holding.{has, has_below, AreLone}
use Rattle.type_settled.specs.Orders.{all_ready, shape_ready, parent_ready, is_ready}
use Rattle.type_settled.specs.Ranks.{rank, is_lower, IsRanked, AreRanks}
use Rattle.type_settled.proofs.Holding.{has_more}

and_first : (a b : Bool) → IsTrue (a && b) → IsTrue a
and_first a b p = grind arith

and_second : (a b : Bool) → IsTrue (a && b) → IsTrue b
and_second a b p = grind arith

-- ---- what isn't in a part isn't in the whole

module _ (has : ℕ → Bool) (done : ℕ → Bool) (none : (t : ℕ) → IsTrue (done t) → has t ≡ false) where
  none_any : (cs : List Component) → IsTrue (all_ready done cs) → any_of has cs ≡ false
  none_any [] ready = refl
  none_any (c ∷ rest) ready =
      ap (λ b. b || any_of has rest) (none c.of (and_first (done c.of) (all_ready done rest) ready))
      ∙ none_any rest (and_second (done c.of) (all_ready done rest) ready)

  none_shape : (s : Shape) → IsTrue (shape_ready done s) → holds_shape has s ≡ false
  none_shape (shape.Whole low high) ready = refl
  none_shape (shape.Listed literals low high) ready = refl
  none_shape (shape.Access t constant named) ready = refl
  none_shape (shape.Fields cs) ready = none_any cs ready
  none_shape (shape.Elements low high t) ready = none t ready
  none_shape (shape.Same t) ready = none t ready

  none_parent : (p : Option ℕ) → IsTrue (parent_ready done p) → holds_parent has p ≡ false
  none_parent None ready = refl
  none_parent (Some t) ready = none t ready

shape_info : (o : Option Info) → shape_found o ≡ (info_found o).shape
shape_info None = refl
shape_info (Some i) = refl

none_below : (table : Table) (d n t : ℕ) (done : ℕ → Bool) → ((u : ℕ) → IsTrue (done u) → has table d n u ≡ false)
    → IsTrue (is_ready done (info table t)) → has_below table d n t ≡ false
none_below table d n t done none ready =
    let i : Info = info table t in
    let s : holds_shape (has table d n) (shape_found (slice_get table t)) ≡ false =
    ap (λ s. holds_shape (has table d n) s) (shape_info (slice_get table t))
    ∙ none_shape (has table d n) done none i.shape (and_first (shape_ready done i.shape) (parent_ready done i.parent) ready) in
    let p : holds_parent (has table d n) i.parent ≡ false =
    none_parent (has table d n) done none i.parent (and_second (shape_ready done i.shape) (parent_ready done i.parent) ready) in
    λ j. s j || p j

-- ---- beyond the table

below_past : (table : Table) (d n t : ℕ) → length table ≤ t → has_below table d n t ≡ false
below_past table d n t past =
    ap (λ o. holds_shape (has table d n) (shape_found o) || holds_parent (has table d n) (info_found o).parent) (slice_get_past table t past)

base_past : (table : Table) (t : ℕ) → length table ≤ t → base table t ≡ 0
base_past table t past = ap base_found (slice_get_past table t past)

not_first : (d : ℕ) → (d ≡ 0 → ⊥) → nat_eq 0 d ≡ false
not_first d ne = grind arith

has_past : (table : Table) (d t n : ℕ) → (d ≡ 0 → ⊥) → length table ≤ t → has table d n t ≡ false
has_past table d t zero ne past = refl
has_past table d t (suc n) ne past =
    has_more table d (suc n) n t (omega arith) ∙ ap (λ b. nat_eq b d || has_below table d n t) (base_past table t past)
    ∙ ap (λ b. b || has_below table d n t) (not_first d ne) ∙ below_past table d n t past

pub base_info : (o : Option Info) → base_found o ≡ (info_found o).base
base_info None = refl
base_info (Some i) = refl

-- ---- what has a lower rank

other_rank : (ranks : List ℕ) (b d u : ℕ) → IsTrue (is_lower ranks (rank ranks u + 1) b) → rank ranks u < rank ranks d
    → (b ≡ d) ⊎ (b ≡ d → ⊥) → nat_eq b d ≡ false
other_rank ranks b d u low lt (inr other) = grind arith
other_rank ranks b d u low lt (inl same) =
    let low : IsTrue (is_lower ranks (rank ranks u + 1) d) = rw (sym same) low in absurd (not_lower (rank ranks d) (rank ranks u) low lt)
  where
    not_lower : (d u : ℕ) → IsTrue (nat_lt d (u + 1)) → u < d → ⊥
    not_lower d u low lt = grind (arith, low, lt)

lower : (v u d : ℕ) → IsTrue (nat_lt v (u + 1)) → u < d → v < d
lower v u d low lt = grind (arith, low, lt)

module _ (table : Table) (ranks : List ℕ) (are : AreRanks table ranks) (d : ℕ) (ne : d ≡ 0 → ⊥) where
  none_at : (n u : ℕ) → rank ranks u < rank ranks d
      → ((v : ℕ) → IsTrue (is_lower ranks (rank ranks u + 1) v) → has table d n v ≡ false) → (u < length table) ⊎ (length table ≤ u)
      → has table d (suc n) u ≡ false
  none_at n u lt none (inr past) = has_past table d u (suc n) ne past
  none_at n u lt none (inl within) =
      has_more table d (suc n) n u (omega arith)
      ∙ ap (λ b. b || has_below table d n u)
      (other_rank ranks (base table u) d u (are u within).1 lt (cases_eq (base table u) d))
      ∙ none_below table d n u (is_lower ranks (rank ranks u + 1)) none (are u within).0

  none_lower : (n u : ℕ) → rank ranks u < rank ranks d → has table d n u ≡ false
  none_lower zero u lt = refl
  none_lower (suc n) u lt =
      none_at n u lt (λ v low. none_lower n v (lower (rank ranks v) (rank ranks u) (rank ranks d) low lt)) (cases_lt u (length table))

  lone_lower : IsTrue (is_ready (is_lower ranks (rank ranks d)) (info table d)) → holds_itself table d ≡ false
  unfolding some_part
  lone_lower ready =
      none_below table d (length table) d (is_lower ranks (rank ranks d))
      (λ v low. none_lower (length table) v (below_of (rank ranks v) (rank ranks d) low)) ready
    where
      below_of : (v d : ℕ) → IsTrue (nat_lt v d) → v < d
      below_of v d low = grind (arith, low)

-- ---- those that are marked

none_marked : (n d : ℕ) → (d < n) ⊎ (n ≤ d) → get_or (replicate n false) d false ≡ false
none_marked n d (inl within) = get_or-replicate n d false false within
none_marked n d (inr past) = get_or_past (replicate n false) d false (omega (arith, past, length-replicate n false))

pub lone_first : (table : Table) (made : List Bool) → made ≡ replicate (length table) false → AreLone table made
lone_first table made is d ne marked =
    absurd (true≢false (sym marked ∙ ap (λ ms. get_or ms d false) is ∙ none_marked (length table) d (cases_lt d (length table))))

pub lone_step : (table : Table) (ranks : List ℕ) (made after : List Bool) (t : ℕ) (i : Info) → AreRanks table ranks → t < length table
    → i ≡ get_or table t i → IsTrue (is_ready (is_lower ranks (rank ranks t)) i) → after ≡ set made t true → AreLone table made
    → AreLone table after
lone_step table ranks made after t i are within at ready is before d ne marked =
    let found : info table t ≡ i = ap info_found (slice_get-get_or table t i within) ∙ sym at in
    let ready : IsTrue (is_ready (is_lower ranks (rank ranks t)) (info table t)) = rw found ready in
    let marked : get_or (set made t true) d false ≡ true = sym (ap (λ ms. get_or ms d false) is) ∙ marked in
    elim (cases_eq d t) [
      | inl e ↦
          let ne : t ≡ 0 → ⊥ = λ z. ne (e ∙ z) in ap (λ d. holds_itself table d) e ∙ lone_lower table ranks are t ne ready
      | inr other ↦ before d ne (sym (get_or-set_other made t d true false other) ∙ marked)
    ]

pub ranks_step : (table : Table) (ranks : List ℕ) (t : ℕ) (i : Info) → t < length table → i ≡ get_or table t i
    → IsTrue (is_ready (is_lower ranks (rank ranks t + 1)) i) → IsTrue (is_lower ranks (rank ranks t + 1) i.base) → IsRanked table ranks t
ranks_step table ranks t i within at ready based =
    let found : info table t ≡ i = ap info_found (slice_get-get_or table t i within) ∙ sym at in
    let same : (info table t).base ≡ base table t = sym (base_info (slice_get table t)) in
    (rw found ready, ap (is_lower ranks (rank ranks t + 1)) (sym same ∙ ap (λ i. i.base) found) ∙ based)
