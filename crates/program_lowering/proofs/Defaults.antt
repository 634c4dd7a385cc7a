-- The word of a scalar object without a value.
use Rattle.std.proofs.Common.{◌≡◌, refl, sym, ap, ◌∙◌, ◌≢◌, ℕ, suc, ◌<◌, ◌≤◌, ◌-◌, [], ◌∷◌, map, length, Option, Some, None, arith}
use Rattle.std.specs.Prelude.{slice_get}
use Rattle.std.proofs.lemmas.Option.{slice_get_within}
use Rattle.type_definitions.specs.declared.table.Shape.{Shape}
use Rattle.type_definitions.specs.declared.table.Shape.TheVariants as shape
use Rattle.type_definitions.specs.declared.table.Info.{Info}
use Rattle.type_definitions.specs.Types.{Table, shape_of, shape_found, meant_type_found, same_as}
use Rattle.machine.specs.Words.{default, default_within}
use Rattle.run_codes.specs.Flat.{default_words, untagged}
use Rattle.run_codes.specs.Lowered.{Scalar, scalar_of}
use Rattle.program_lowering.specs.Defaults.{first_word, default_scalar}

some_same : {A : Type 0} (a b : A) → Some a ≡ Some b → a ≡ b
some_same a b e = cc

none_some : {A : Type 0} {B : Type 0} (a : A) → None ≡ Some a → B
none_some a e = absurd cc

-- That of a type that has a definition of its own.
own_default : (n : ℕ) (table : Table) (t : ℕ) (s : Scalar) (d : Shape) → shape_found (slice_get table t) ≡ d → scalar_of d ≡ Some s
    → map untagged (default_within (suc n) table t) ≡ first_word t s.sort s.low ∷ []
unfolding default_within
own_default n table t s (shape.Whole low high) is e =
    rw is (ap (λ (x : Scalar). first_word t x.sort x.low ∷ []) (some_same _ s e))
own_default n table t s (shape.Listed literals low high) is e =
    rw is (ap (λ (x : Scalar). first_word t x.sort x.low ∷ []) (some_same _ s e))
own_default n table t s (shape.Access d constant named) is e = none_some s e
own_default n table t s (shape.Fields components) is e = none_some s e
own_default n table t s (shape.Elements low high element) is e = none_some s e
own_default n table t s (shape.Same of) is e = none_some s e

-- That of a subtype is that of the type.
same_default : (n : ℕ) (table : Table) (t of : ℕ) → shape_found (slice_get table t) ≡ shape.Same of
    → default_within (suc n) table t ≡ default_within n table of
unfolding default_within
same_default n table t of is = rw is refl

above_one : (n : ℕ) → 1 ≤ n → n ≡ suc (n - 1)
above_one n le = omega (arith, le)

above_two : (n : ℕ) → 2 ≤ n → n ≡ suc (suc (n - 2))
above_two n le = omega (arith, le)

there : (table : Table) (t : ℕ) (s : Scalar) → scalar_of (shape_found (slice_get table t)) ≡ Some s → t < length table
there table t s e = there_by (slice_get table t) refl e
  where
    there_by : (i : Option Info) → slice_get table t ≡ i → scalar_of (shape_found i) ≡ Some s → t < length table
    there_by None is e = none_some s e
    there_by (Some i) is e = slice_get_within table t i is

two : (a b n : ℕ) → a < n → b < n → a ≢ b → 2 ≤ n
two a b n below lower other = omega (arith, below, lower, other)

module _ (table : Table) (t : ℕ) (s : Scalar) where
  by_itself : scalar_of (shape_found (slice_get table t)) ≡ Some s
      → map untagged (default_within (length table) table t) ≡ first_word t s.sort s.low ∷ []
  by_itself e =
      let within : t < length table = there table t s e in
      let one : 1 ≤ length table = omega (arith, within) in
      ap (λ n. map untagged (default_within n table t)) (above_one (length table) one)
      ∙ own_default (length table - 1) table t s (shape_found (slice_get table t)) refl e

  by_other : (i : Info) (of : ℕ) → slice_get table t ≡ Some i → i.shape ≡ shape.Same of → scalar_of (shape_found (slice_get table of)) ≡ Some s
      → map untagged (default_within (length table) table t) ≡ first_word of s.sort s.low ∷ []
  by_other i of found is e =
      let same : shape_found (slice_get table t) ≡ shape.Same of = ap shape_found found ∙ is in
      let within : t < length table = slice_get_within table t i found in
      let lower : of < length table = there table of s e in
      let other : t ≢ of = λ one. none_some s (sym (ap scalar_of same) ∙ (ap (λ n. scalar_of (shape_found (slice_get table n))) one ∙ e)) in
      let most : 2 ≤ length table = two t of (length table) within lower other in
      ap (λ n. map untagged (default_within n table t)) (above_two (length table) most)
      ∙ (ap (λ ws. map untagged ws) (same_default (suc (length table - 2)) table t of same)
      ∙ own_default (length table - 2) table of s (shape_found (slice_get table of)) refl e)

  by_shape : (i : Info) (d : Shape) → slice_get table t ≡ Some i → i.shape ≡ d → scalar_of (shape_found (slice_get table (same_as t d))) ≡ Some s
      → map untagged (default_within (length table) table t) ≡ first_word (same_as t d) s.sort s.low ∷ []
  by_shape i (shape.Whole low high) found is e = by_itself e
  by_shape i (shape.Listed literals low high) found is e = by_itself e
  by_shape i (shape.Access d constant named) found is e = by_itself e
  by_shape i (shape.Fields components) found is e = by_itself e
  by_shape i (shape.Elements low high element) found is e = by_itself e
  by_shape i (shape.Same of) found is e = by_other i of found is e

  by_info : (o : Option Info) → slice_get table t ≡ o → scalar_of (shape_found (slice_get table (meant_type_found t o))) ≡ Some s
      → map untagged (default_within (length table) table t) ≡ first_word (meant_type_found t o) s.sort s.low ∷ []
  by_info None found e = by_itself e
  by_info (Some i) found e = by_shape i i.shape found refl e

pub default_is : (table : Table) (t : ℕ) (s : Scalar) → scalar_of (shape_of table t) ≡ Some s
    → default_words table t ≡ default_scalar table t s ∷ []
unfolding default
default_is table t s e = by_info table t s (slice_get table t) refl e
