-- Types: what they are made of, their words, and their access parts (docs/LANGUAGE.md, "Types"; Ada
-- 2012, 3.2 and 3.5 to 3.10).
--
-- Types have the numbers of their declarations. A declaration of another kind has an anonymous
-- access type, or none.
use Rattle.std.specs.Prelude.{ℕ, zero, suc, ◌+◌, ◌*◌, Bool, true, false, ◌&&◌, ◌||◌, List, [], ◌∷◌, ◌++◌, map, length, sum, slice_get, nat_eq, nat_le, Option, Some, None, ℤ, ◌-ℤ◌, int_le, unsigned_abs, if◌then◌else◌}
use Rattle.std.specs.Ordering.{int_eq}
use Rattle.resolved_tree.specs.place_names.declared.selector.Sel.{Sel}
use Rattle.resolved_tree.specs.place_names.declared.selector.Sel.TheVariants.{Field, Elem}
use Rattle.type_definitions.specs.declared.table.Component.{Component}
use Rattle.type_definitions.specs.declared.table.Shape.{Shape}
use Rattle.type_definitions.specs.declared.table.Shape.TheVariants as shape
use Rattle.type_definitions.specs.declared.table.Info.{Info}
use Rattle.type_definitions.specs.declared.judgement.View.{View}
use Rattle.type_definitions.specs.declared.judgement.View.TheVariants as view

abbrev pub Table : Type 0
Table = List Info

abbrev pub no_type : Info
no_type = record { shape = shape.Fields []; base = 0; parent = None; seen_in = None; completed = None; bounded = true }

abbrev pub is_nil : {A : Type 0} → List A → Bool
is_nil [] = true
is_nil (_ ∷ _) = false

-- ---- look-up

abbrev pub info_found : Option Info → Info
info_found None = no_type
info_found (Some i) = i

abbrev pub info : Table → ℕ → Info
info table t = info_found (slice_get table t)

abbrev pub same_as : ℕ → Shape → ℕ
same_as t (shape.Same of) = of
same_as t _ = t

abbrev pub meant_type_found : ℕ → Option Info → ℕ
meant_type_found t None = t
meant_type_found t (Some i) = same_as t i.shape

-- The type that is meant by a subtype without a constraint.
abbrev pub meant_type : Table → ℕ → ℕ
meant_type table t = meant_type_found t (slice_get table t)

abbrev pub shape_found : Option Info → Shape
shape_found None = shape.Fields []
shape_found (Some i) = i.shape

-- The definition of a type.
abbrev pub shape_of : Table → ℕ → Shape
shape_of table t = shape_found (slice_get table (meant_type table t))

abbrev pub base_found : Option Info → ℕ
base_found None = 0
base_found (Some i) = i.base

-- The type that a type is a subtype of.
abbrev pub base : Table → ℕ → ℕ
base table t = base_found (slice_get table t)

-- What stands for a type where a mark denotes none: a declaration that isn't one, the literal False. It
-- is a subtype of Integer, or where it is asked which fault is told, a type that isn't known: no sentence
-- is broken by what has it.
abbrev pub untyped : ℕ
untyped = 4

-- A type that isn't known: that one, or a subtype of it.
abbrev pub is_untyped : Table → ℕ → Bool
is_untyped table t = nat_eq (base table t) untyped

-- The bounds in the definition of a type are known, where it has some.
abbrev pub is_bounded : Table → ℕ → Bool
is_bounded table t = (info table (meant_type table t)).bounded

abbrev pub components_of : Shape → List Component
components_of (shape.Fields components) = components
components_of _ = []

-- The components of a record.
abbrev pub fields : Table → ℕ → List Component
fields table t = components_of (shape_of table t)

-- ---- words and access parts

-- The count of values from the low bound to the high bound.
abbrev pub span : ℤ → ℤ → ℕ
span low high = if int_le low high then unsigned_abs (high -ℤ low) + 1 else 0

-- The words of a type, from those of the types that it is made of: 1 of a scalar or access type,
-- the sum over a record, the product over an array.
abbrev pub words_of : (ℕ → ℕ) → Shape → ℕ
words_of words (shape.Whole low high) = 1
words_of words (shape.Listed literals low high) = 1
words_of words (shape.Access designated constant named) = 1
words_of words (shape.Fields components) = sum (map (λ c. words c.of) components)
words_of words (shape.Elements low high element) = span low high * words element
words_of words (shape.Same of) = words of

abbrev pub numbered : ℕ → (ℕ → List (List Sel)) → List Component → List (List Sel)
numbered i parts [] = []
numbered i parts (c ∷ rest) = map (λ q. Field i ∷ q) (parts c.of) ++ numbered (i + 1) parts rest

-- The access parts of a type: the paths without a dereference to a named access type, in the order
-- of the components; one path for all elements of an array.
abbrev pub parts_of : (ℕ → List (List Sel)) → Shape → List (List Sel)
parts_of parts (shape.Whole low high) = []
parts_of parts (shape.Listed literals low high) = []
parts_of parts (shape.Access designated constant named) = if named then [] ∷ [] else []
parts_of parts (shape.Fields components) = numbered 0 parts components
parts_of parts (shape.Elements low high element) = map (λ q. Elem ∷ q) (parts element)
parts_of parts (shape.Same of) = parts of

-- A type is nested as deep as there are types, at most, where none has itself as a part.
unfoldable pub words_within : ℕ → Table → ℕ → ℕ
words_within zero table t = 0
words_within (suc n) table t = words_of (words_within n table) (shape_found (slice_get table t))

unfoldable pub parts_within : ℕ → Table → ℕ → List (List Sel)
parts_within zero table t = []
parts_within (suc n) table t = parts_of (parts_within n table) (shape_found (slice_get table t))

unfoldable pub words : Table → ℕ → ℕ
words table t = words_within (length table) table t

unfoldable pub parts : Table → ℕ → List (List Sel)
parts table t = parts_within (length table) table t

abbrev pub any_owns : (ℕ → Bool) → List Component → Bool
any_owns owns [] = false
any_owns owns (c ∷ rest) = owns c.of || any_owns owns rest

-- A type is owning where it is a named access type, or has an owning component or element.
abbrev pub owns_of : (ℕ → Bool) → Shape → Bool
owns_of owns (shape.Access designated constant named) = named
owns_of owns (shape.Fields components) = any_owns owns components
owns_of owns (shape.Elements low high element) = owns element
owns_of owns (shape.Same of) = owns of
owns_of owns _ = false

unfoldable pub owns_within : ℕ → Table → ℕ → Bool
owns_within zero table t = false
owns_within (suc n) table t = owns_of (owns_within n table) (shape_found (slice_get table t))

unfoldable pub is_owning : Table → ℕ → Bool
is_owning table t = owns_within (length table) table t

-- ---- what is asked of types

abbrev pub view_of : Shape → View
view_of (shape.Whole low high) = view.Whole low high
view_of (shape.Listed literals low high) = view.Listed low high
view_of (shape.Access designated constant named) = view.Access designated constant named
view_of (shape.Fields components) = view.Fields
view_of (shape.Elements low high element) = view.Elements low high element
view_of (shape.Same of) = view.Fields

-- The full view of a type.
abbrev pub full : Table → ℕ → View
full table t = view_of (shape_of table t)

abbrev pub is_scalar : View → Bool
is_scalar (view.Whole low high) = true
is_scalar (view.Listed low high) = true
is_scalar _ = false

abbrev pub same_bounds : View → View → Bool
same_bounds (view.Whole a b) (view.Whole c d) = int_eq a c && int_eq b d
same_bounds (view.Listed a b) (view.Listed c d) = nat_eq a c && nat_eq b d
same_bounds _ _ = true

-- Two types are one type with the same bounds, or one of them isn't known.
abbrev pub is_same : Table → ℕ → ℕ → Bool
is_same table s t =
    is_untyped table s || (is_untyped table t || (nat_eq (base table s) (base table t) && same_bounds (full table s) (full table t)))

-- A scalar subtype whose low bound is above its high bound has no value.
abbrev pub has_value : View → Bool
has_value (view.Whole low high) = int_le low high
has_value (view.Listed low high) = nat_le low high
has_value _ = true
