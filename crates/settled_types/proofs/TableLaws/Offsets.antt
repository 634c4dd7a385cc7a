-- A part of a type stands among the sorts of its words, and access values stand at its access offsets.
use Rattle.std.proofs.Common.{◌≡◌, ℕ, zero, suc, ◌*◌, true, false, List, [], ◌∷◌, ◌++◌, map, take, sum, length, get_or, refl, sym, ap, subst, ◌∙◌, arith, Some, slice_get, nat_lt}
use Rattle.std.specs.Prelude.{flat_map}
use Rattle.std.proofs.lemmas.Bool.{false≢true}
use Rattle.machine.specs.spark_base.Lists.{Has}
use Rattle.machine.specs.type_definitions.declared.table.Component.{Component}
use Rattle.machine.specs.type_definitions.declared.table.Shape.{Shape}
use Rattle.machine.specs.type_definitions.declared.table.Shape.TheVariants as shape
use Rattle.machine.specs.type_definitions.Types.{Table, shape_of, components_of, fields, span, words}
use Rattle.soundness.specs.OwnedWays.Ways as ways
use Rattle.soundness.specs.OwnedWays.Ways.{Step}
use Rattle.machine.specs.Words.{no_component, words_before, component_type, element_of, count_of, element_type, element_count, access_offsets}
use Rattle.machine.specs.Typed.{Sort, Pointer, sorts, sorts_of, repeated_sorts}
use Rattle.soundness.specs.PartOffsets.Parts.{type_in, offset_in, has_part, owns_one, IsSettled}
use Rattle.soundness.proofs.PartOffsets.Leaves.{leaf_from}
use Rattle.run_codes.specs.Related.{IsSplit}
use Rattle.run_codes.proofs.Parts.{many, whole_split, join_split, component_split, element_split}
use Rattle.run_codes.proofs.Places.{both_true, below}

module _ (table : Table) (law : (t : ℕ) → sorts table t ≡ sorts_of (sorts table) (shape_of table t)) where
  -- ---- one step

  component_at : (t i : ℕ) (s : Shape) → shape_of table t ≡ s → nat_lt i (length (components_of s)) ≡ true → IsSplit (sorts table t) (words_before table t i) (sorts table (component_type table t i))
  component_at t i (shape.Fields cs) is low =
      let parts = component_split table cs i (below i (length cs) low) in
      let sorts_are : sorts table t ≡ flat_map (λ (c : Component). sorts table c.of) cs = law t ∙ ap (sorts_of (sorts table)) is in
      let of_is : component_type table t i ≡ (get_or cs i no_component).of = ap (λ s. (get_or (components_of s) i no_component).of) is in
      let at_is = ap (λ s. sum (map (λ (c : Component). words table c.of) (take i (components_of s)))) is in
      subst (λ l. IsSplit l (words_before table t i) (sorts table (component_type table t i))) (sym sorts_are)
      (subst (λ u. IsSplit (flat_map (λ (c : Component). sorts table c.of) cs) (words_before table t i) (sorts table u)) (sym of_is)
      (subst (λ n. IsSplit (flat_map (λ (c : Component). sorts table c.of) cs) n (sorts table (get_or cs i no_component).of)) (sym at_is) parts))
  component_at t i (shape.Whole low high) is lt = absurd (none i lt)
    where
      none : (i : ℕ) → nat_lt i 0 ≡ true → ⊥
      none i lt = grind arith
  component_at t i (shape.Listed literals low high) is lt = absurd (none i lt)
    where
      none : (i : ℕ) → nat_lt i 0 ≡ true → ⊥
      none i lt = grind arith
  component_at t i (shape.Access d constant named) is lt = absurd (none i lt)
    where
      none : (i : ℕ) → nat_lt i 0 ≡ true → ⊥
      none i lt = grind arith
  component_at t i (shape.Elements low high element) is lt = absurd (none i lt)
    where
      none : (i : ℕ) → nat_lt i 0 ≡ true → ⊥
      none i lt = grind arith
  component_at t i (shape.Same of) is lt = absurd (none i lt)
    where
      none : (i : ℕ) → nat_lt i 0 ≡ true → ⊥
      none i lt = grind arith

  element_at : (t n : ℕ) (s : Shape) → shape_of table t ≡ s → nat_lt n (count_of s) ≡ true → IsSplit (sorts table t) (n * words table (element_type table t)) (sorts table (element_type table t))
  element_at t n (shape.Elements low high element) is lt =
      let sorts_are : sorts table t ≡ repeated_sorts (span low high) (sorts table element) = law t ∙ ap (sorts_of (sorts table)) is in
      let of_is : element_type table t ≡ element = ap element_of is in
      subst (λ l. IsSplit l (n * words table (element_type table t)) (sorts table (element_type table t))) (sym sorts_are)
      (subst (λ u. IsSplit (repeated_sorts (span low high) (sorts table element)) (n * words table u) (sorts table u)) (sym of_is)
      (element_split (span low high) (sorts table element) (words table element) n (many table element) (below n (span low high) lt)))
  element_at t n (shape.Fields cs) is lt = absurd (none n lt)
    where
      none : (i : ℕ) → nat_lt i 0 ≡ true → ⊥
      none i lt = grind arith
  element_at t n (shape.Whole low high) is lt = absurd (none n lt)
    where
      none : (i : ℕ) → nat_lt i 0 ≡ true → ⊥
      none i lt = grind arith
  element_at t n (shape.Listed literals low high) is lt = absurd (none n lt)
    where
      none : (i : ℕ) → nat_lt i 0 ≡ true → ⊥
      none i lt = grind arith
  element_at t n (shape.Access d constant named) is lt = absurd (none n lt)
    where
      none : (i : ℕ) → nat_lt i 0 ≡ true → ⊥
      none i lt = grind arith
  element_at t n (shape.Same of) is lt = absurd (none n lt)
    where
      none : (i : ℕ) → nat_lt i 0 ≡ true → ⊥
      none i lt = grind arith

  -- ---- along steps

  part_at : (t : ℕ) (p : List Step) → has_part table t p ≡ true → IsSplit (sorts table t) (offset_in table t p) (sorts table (type_in table t p))
  part_at t [] has = whole_split (sorts table t)
  part_at t (ways.Component i ∷ p) has =
      let both = both_true (has_part table t p) (nat_lt i (length (fields table (type_in table t p)))) has in
      let u : ℕ = type_in table t p in
      join_split (sorts table t) (sorts table u) (sorts table (component_type table u i)) (offset_in table t p) (words_before table u i) (part_at t p both.0)
      (component_at u i (shape_of table u) refl both.1)
  part_at t (ways.Element n ∷ p) has =
      let both = both_true (has_part table t p) (nat_lt n (element_count table (type_in table t p))) has in
      let u : ℕ = type_in table t p in
      join_split (sorts table t) (sorts table u) (sorts table (element_type table u)) (offset_in table t p) (n * words table (element_type table u)) (part_at t p both.0)
      (element_at u n (shape_of table u) refl both.1)

  -- ---- access parts

  owning_sorts : (t : ℕ) (s : Shape) → shape_of table t ≡ s → owns_one s ≡ true → (d : ℕ) × (sorts table t ≡ Pointer d ∷ [])
  owning_sorts t (shape.Access d constant named) is owns = (d, law t ∙ ap (sorts_of (sorts table)) is)
  owning_sorts t (shape.Whole low high) is owns = absurd (never owns)
    where
      never : false ≡ true → ⊥
      never x = absurd (false≢true x)
  owning_sorts t (shape.Listed literals low high) is owns = absurd (never owns)
    where
      never : false ≡ true → ⊥
      never x = absurd (false≢true x)
  owning_sorts t (shape.Fields cs) is owns = absurd (never owns)
    where
      never : false ≡ true → ⊥
      never x = absurd (false≢true x)
  owning_sorts t (shape.Elements low high element) is owns = absurd (never owns)
    where
      never : false ≡ true → ⊥
      never x = absurd (false≢true x)
  owning_sorts t (shape.Same of) is owns = absurd (never owns)
    where
      never : false ≡ true → ⊥
      never x = absurd (false≢true x)

  first_at : (front rest : List Sort) (k : Sort) (n : ℕ) → length front ≡ n → slice_get (front ++ ((k ∷ []) ++ rest)) n ≡ Some k
  first_at [] rest k zero long = refl
  first_at [] rest k (suc n) long = absurd (omega (arith, long))
  first_at (x ∷ front) rest k zero long = absurd (omega (arith, long))
  first_at (x ∷ front) rest k (suc n) long = first_at front rest k n (omega (arith, long))

  pub access_at : IsSettled table → (t o : ℕ) → Has (access_offsets table t) o → (d : ℕ) × (slice_get (sorts table t) o ≡ Some (Pointer d))
  access_at settled t o has =
      let leaf = leaf_from table settled t o has in
      let both = both_true (has_part table t leaf.0) (owns_one (shape_of table (type_in table t leaf.0))) leaf.1 in
      let split = part_at t leaf.0 both.0 in
      let pointer = owning_sorts (type_in table t leaf.0) (shape_of table (type_in table t leaf.0)) refl both.1 in (
        pointer.0,
        ap (λ l. slice_get l o) (split.is ∙ ap (λ l. split.front ++ (l ++ split.rest)) pointer.1) ∙ first_at split.front split.rest (Pointer pointer.0) o (split.long ∙ leaf.2),
      )
