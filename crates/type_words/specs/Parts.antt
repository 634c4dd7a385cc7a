-- What types are made of adds words, by what is known of each.
use Rattle.std.specs.Prelude.{ℕ, zero, suc, ◌+◌, List, [], ◌∷◌, ◌++◌, map, flat_map, nat_eq, ℤ, pos, if◌then◌else◌}
use Rattle.place_names.specs.declared.selector.Sel.{Sel}
use Rattle.type_definitions.specs.declared.table.Component.{Component}
use Rattle.type_definitions.specs.declared.table.Shape.{Shape}
use Rattle.type_definitions.specs.declared.table.Shape.TheVariants as shape
use Rattle.type_definitions.specs.Types.{Table, span}
use Rattle.type_definitions.specs.Entries.{integer}
use Rattle.run_values.specs.declared.value.Kind.{Kind}
use Rattle.run_values.specs.declared.value.Kind.TheVariants as sort
use Rattle.machine.specs.Words.{Word, offsets}
use Rattle.machine.specs.Typed.{Sort}
use Rattle.run_codes.specs.Flat.{kind_of, untagged, repeated}

-- Items so many times.
abbrev pub copies : {A : Type 0} → ℕ → List A → List A
copies zero items = []
copies (suc n) items = items ++ copies n items

-- The kinds of the words of a definition, from the sorts of those that it is made of.
abbrev pub fields_kinds : (ℕ → List Sort) → List Component → List Kind
fields_kinds sorts [] = []
fields_kinds sorts (c ∷ rest) = map kind_of (sorts c.of) ++ fields_kinds sorts rest

abbrev pub repeated_kinds : ℕ → List Kind → List Kind
repeated_kinds zero kinds = []
repeated_kinds (suc n) kinds = kinds ++ repeated_kinds n kinds

abbrev pub shape_kinds : (ℕ → List Sort) → Shape → List Kind
shape_kinds sorts (shape.Whole low high) = sort.Int ∷ []
shape_kinds sorts (shape.Listed literals low high) = sort.Enum ∷ []
shape_kinds sorts (shape.Access designated constant named) = sort.Access ∷ []
shape_kinds sorts (shape.Fields components) = fields_kinds sorts components
shape_kinds sorts (shape.Elements low high element) = repeated_kinds (span low high) (map kind_of (sorts element))
shape_kinds sorts (shape.Same of) = map kind_of (sorts of)

-- The same of the words of an object without a value.
abbrev pub fields_words : (ℕ → List Word) → List Component → List ℤ
fields_words defaults [] = []
fields_words defaults (c ∷ rest) = map untagged (defaults c.of) ++ fields_words defaults rest

abbrev pub shape_words : (ℕ → List Word) → ℕ → Shape → List ℤ
shape_words defaults t (shape.Whole low high) = (if nat_eq t integer then pos 0 else low) ∷ []
shape_words defaults t (shape.Listed literals low high) = pos low ∷ []
shape_words defaults t (shape.Access designated constant named) = pos 0 ∷ []
shape_words defaults t (shape.Fields components) = fields_words defaults components
shape_words defaults t (shape.Elements low high element) = repeated (span low high) (map untagged (defaults element))
shape_words defaults t (shape.Same of) = map untagged (defaults of)

-- At which words a part of a type stands that begins at an offset.
abbrev pub offsets_from : Table → ℕ → ℕ → List Sel → List ℕ
offsets_from table at t part = map (λ o. at + o) (offsets table t part)

-- Those of some of its parts.
abbrev pub all_offsets : Table → ℕ → List (List Sel) → List ℕ
all_offsets table t parts = flat_map (offsets table t) parts
