-- The words of named access types.
use Rattle.std.proofs.Common.{◌≡◌, ℕ, true, false, List, [], ◌∷◌, map, flat_map, length, refl, sym, ap, None, Option, slice_get}
use Rattle.place_names.specs.declared.selector.Sel.{Sel}
use Rattle.type_definitions.specs.declared.table.Shape.{Shape}
use Rattle.type_definitions.specs.declared.table.Shape.TheVariants as shape
use Rattle.type_definitions.specs.declared.table.Info.{Info}
use Rattle.type_definitions.specs.Types.{Table, shape_found, parts, parts_of, parts_within}
use Rattle.run_values.specs.declared.value.Kind.TheVariants as sort
use Rattle.machine.specs.Typed.{Sort, sorts, sorts_of, sorts_within}
use Rattle.machine.specs.Words.{offsets, access_offsets}
use Rattle.run_codes.specs.Flat.{kind_of, kinds}
use Rattle.type_words.specs.Pointers.{is_named, is_pointer}

named_kinds : (f : ℕ → List Sort) (sh : Shape) → is_named sh ≡ true → map kind_of (sorts_of f sh) ≡ sort.Access ∷ []
named_kinds f (shape.Access d c n) is = refl
named_kinds f (shape.Whole low high) is = cc
named_kinds f (shape.Listed l low high) is = cc
named_kinds f (shape.Fields cs) is = cc
named_kinds f (shape.Elements low high e) is = cc
named_kinds f (shape.Same of) is = cc

named_parts : (f : ℕ → List (List Sel)) (sh : Shape) → is_named sh ≡ true → parts_of f sh ≡ [] ∷ []
named_parts f (shape.Access d c true) is = refl
named_parts f (shape.Access d c false) is = cc
named_parts f (shape.Whole low high) is = cc
named_parts f (shape.Listed l low high) is = cc
named_parts f (shape.Fields cs) is = cc
named_parts f (shape.Elements low high e) is = cc
named_parts f (shape.Same of) is = cc

pub pointer_kinds : (table : Table) (t : ℕ) → is_pointer table t ≡ true → kinds table t ≡ sort.Access ∷ []
unfolding sorts sorts_within
pointer_kinds [] t is = cc
pointer_kinds (i ∷ table) t is = named_kinds (sorts_within (length table) (i ∷ table)) (shape_found (slice_get (i ∷ table) t)) is

pointer_parts : (table : Table) (t : ℕ) → is_pointer table t ≡ true → parts table t ≡ [] ∷ []
unfolding parts parts_within
pointer_parts [] t is = cc
pointer_parts (i ∷ table) t is = named_parts (parts_within (length table) (i ∷ table)) (shape_found (slice_get (i ∷ table) t)) is

pub pointer_offsets : (table : Table) (t : ℕ) → is_pointer table t ≡ true → access_offsets table t ≡ 0 ∷ []
unfolding offsets
pointer_offsets table t is = ap (flat_map (offsets table t)) (pointer_parts table t is)

pub none_named : (x : Option Info) → x ≡ None → false ≡ is_named (shape_found x)
none_named x is = ap (λ y. is_named (shape_found y)) (sym is)
