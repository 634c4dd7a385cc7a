-- What an object of a named access type has without a value, and that it is owning.
use Rattle.std.proofs.Common.{◌≡◌, ℕ, zero, suc, ◌<◌, true, Bool, List, [], ◌∷◌, length, refl, sym, ap, subst, ◌∙◌, arith, Option, Some, None, slice_get, ℤ, pos, negsuc}
use Rattle.type_definitions.specs.declared.table.Info.{Info}
use Rattle.type_definitions.specs.declared.table.Shape.{Shape}
use Rattle.type_definitions.specs.declared.table.Shape.TheVariants as shape
use Rattle.type_definitions.specs.Types.{Table, shape_found, same_as, meant_type_found, shape_of, owns_of, owns_within, is_owning}
use Rattle.machine.specs.Words.{Word, default}
use Rattle.machine.specs.Typed.{Pointer}
use Rattle.run_codes.specs.Flat.{default_words}
use Rattle.run_codes.specs.Related.{IsValue, IsTable}
use Rattle.run_codes.proofs.Places.{impossible}
use Rattle.run_fills.specs.Filled.{HasParts}
use Rattle.run_fills.proofs.Values.{default_value}

-- ---- null

no_cell_there : (n : ℕ) → n < 0 → ⊥
no_cell_there n lt = omega (arith, lt)

-- Where no cell was made, an access value is null.
null_value : (table : Table) (d : ℕ) (ws : List Word) (zs : List ℤ) → IsValue table [] (Pointer d ∷ []) ws zs → zs ≡ pos 0 ∷ []
null_value table d [] zs is = absurd is.stand
null_value table d (w ∷ ws) [] is = absurd is.stand
null_value table d (w ∷ ws) (pos zero ∷ []) is = refl
null_value table d (w ∷ ws) (pos (suc n) ∷ []) is = absurd (no_cell_there n is.stand.0.0.1.within)
null_value table d (w ∷ ws) (negsuc n ∷ []) is = absurd (no_cell_there n is.stand.0.0.1.within)
null_value table d (w ∷ ws) (z ∷ y ∷ zs) is = absurd (omega (arith, is.numbers))

pub pointer_default : (table : Table) → IsTable table → HasParts table → (t d : ℕ) (constant named : Bool) → shape_of table t ≡ shape.Access d constant named → default_words table t ≡ pos 0 ∷ []
pointer_default table laws parts t d constant named is =
    null_value table d (default table t) (default_words table t)
    (subst (λ l. IsValue table [] l (default table t) (default_words table t)) (laws.access t d constant named is) (default_value table [] parts t))

-- ---- owning

found_there : (o : Option Info) (d : ℕ) (constant : Bool) → shape_found o ≡ shape.Access d constant true → (i : Info) × (o ≡ Some i) × (i.shape ≡ shape.Access d constant true)
found_there None d constant is = absurd (never d constant is)
  where
    never : (d : ℕ) (constant : Bool) → shape.Fields [] ≡ shape.Access d constant true → ⊥
    never d constant is = cc
found_there (Some i) d constant is = (i, refl, is)

get_long : {A : Type 0} (xs : List A) (t : ℕ) (a : A) → slice_get xs t ≡ Some a → t < length xs
get_long [] t a is = impossible a is
get_long (x ∷ xs) zero a is = omega arith
get_long (x ∷ xs) (suc t) a is = let more = get_long xs t a is in omega (arith, more)

owns_access : (table : Table) (n t d : ℕ) (constant : Bool) (i : Info) → slice_get table t ≡ Some i → i.shape ≡ shape.Access d constant true → owns_within (suc n) table t ≡ true
unfolding owns_within
owns_access table n t d constant i there is = ap (λ o. owns_of (owns_within n table) (shape_found o)) there ∙ ap (λ s. owns_of (owns_within n table) s) is

owns_same : (table : Table) (n t of : ℕ) (i : Info) → slice_get table t ≡ Some i → i.shape ≡ shape.Same of → owns_within (suc n) table t ≡ owns_within n table of
unfolding owns_within
owns_same table n t of i there is = ap (λ o. owns_of (owns_within n table) (shape_found o)) there ∙ ap (λ s. owns_of (owns_within n table) s) is

-- A table in which a type is there has some depth.
owns_deep : (table : Table) (n t d : ℕ) (constant : Bool) → n ≡ length table → shape_found (slice_get table t) ≡ shape.Access d constant true → owns_within n table t ≡ true
owns_deep table zero t d constant long is =
    let i = found_there (slice_get table t) d constant is in
    let low = get_long table t i.0 i.1 in
    absurd (omega (arith, long, low))
owns_deep table (suc n) t d constant long is = let i = found_there (slice_get table t) d constant is in owns_access table n t d constant i.0 i.1 i.2

-- The type that is meant by another one is another one.
apart : (table : Table) (t of d : ℕ) (constant : Bool) (i : Info) → slice_get table t ≡ Some i → i.shape ≡ shape.Same of → shape_found (slice_get table of) ≡ shape.Access d constant true → t ≡ of → ⊥
apart table t of d constant i there is access same =
    never of d constant (sym is ∙ sym (ap (λ o. shape_found o) there) ∙ ap (λ j. shape_found (slice_get table j)) same ∙ access)
  where
    never : (of d : ℕ) (constant : Bool) → shape.Same of ≡ shape.Access d constant true → ⊥
    never of d constant is = cc

owns_through : (table : Table) (n t of d : ℕ) (constant : Bool) (i : Info) → n ≡ length table → slice_get table t ≡ Some i → i.shape ≡ shape.Same of
    → shape_found (slice_get table of) ≡ shape.Access d constant true → owns_within n table t ≡ true
owns_through table zero t of d constant i long there is access = let low = get_long table t i there in absurd (omega (arith, long, low))
owns_through table (suc zero) t of d constant i long there is access =
    let j = found_there (slice_get table of) d constant access in
    let low = get_long table t i there in
    let other = get_long table of j.0 j.1 in
    absurd (apart table t of d constant i there is access (both t of (length table) long low other))
  where
    both : (a b n : ℕ) → suc zero ≡ n → a < n → b < n → a ≡ b
    both a b n long low other = omega (arith, long, low, other)
owns_through table (suc (suc n)) t of d constant i long there is access =
    let j = found_there (slice_get table of) d constant access in
    owns_same table (suc n) t of i there is ∙ owns_access table n of d constant j.0 j.1 j.2

owns_by : (table : Table) (t d : ℕ) (constant : Bool) (i : Info) → slice_get table t ≡ Some i → (sh : Shape) → i.shape ≡ sh
    → shape_found (slice_get table (same_as t sh)) ≡ shape.Access d constant true → owns_within (length table) table t ≡ true
owns_by table t d constant i there (shape.Same of) is access = owns_through table (length table) t of d constant i refl there is access
owns_by table t d constant i there _ is access = owns_deep table (length table) t d constant refl access

owns_found : (table : Table) (t d : ℕ) (constant : Bool) (o : Option Info) → slice_get table t ≡ o → shape_found (slice_get table (meant_type_found t o)) ≡ shape.Access d constant true
    → owns_within (length table) table t ≡ true
owns_found table t d constant None there access = owns_deep table (length table) t d constant refl access
owns_found table t d constant (Some i) there access = owns_by table t d constant i there i.shape refl access

pub owns_named : (table : Table) (t d : ℕ) (constant : Bool) → shape_of table t ≡ shape.Access d constant true → is_owning table t ≡ true
unfolding is_owning
owns_named table t d constant is = owns_found table t d constant (slice_get table t) refl is
