-- What is measured of a type: its words, its access parts, and whether a type in it is unsound,
-- each as far as a limit needs it (docs/LANGUAGE.md, "Types").
use Rattle.std.specs.Prelude.{◌≡◌, ℕ, zero, suc, ◌+◌, ◌*◌, Bool, true, false, ◌||◌, List, [], ◌∷◌, length, min, max, nat_eq, get_or, IsTrue, Option, Some, None, if◌then◌else◌}
use Rattle.place_names.specs.declared.selector.Sel.{Sel}
use Rattle.type_definitions.specs.declared.table.Component.{Component}
use Rattle.type_definitions.specs.declared.table.Shape.{Shape}
use Rattle.type_definitions.specs.declared.table.Shape.TheVariants as shape
use Rattle.type_definitions.specs.declared.table.Info.{Info}
use Rattle.type_definitions.specs.Types.{Table, info, span, words_within, parts_within}
use Rattle.type_definitions.specs.Declarations.{holds_shape, holds_parent}
use Rattle.type_settled.specs.declared.measure.Measure.{Measure}
use Rattle.type_settled.specs.declared.measures.Measures.{Measures}

-- ---- what is meant

-- How long the longest list is, and one more; 0 where there is none.
abbrev pub reach : List (List Sel) → ℕ
reach [] = 0
reach (q ∷ rest) = max (length q + 1) (reach rest)

-- Some type in a type, at a depth of at most n, is as asked.
unfoldable pub some_below : ℕ → (ℕ → Bool) → Table → ℕ → Bool
some_below zero is table t = false
some_below (suc n) is table t =
    holds_shape (λ u. is u || some_below n is table u) (info table t).shape
    || holds_parent (λ u. is u || some_below n is table u) (info table t).parent

-- The measure of a type, at a depth of at most n.
abbrev pub measured : (ℕ → Bool) → ℕ → Table → ℕ → Measure
measured is n table t = record {
  words = min 65537 (words_within n table t);
  parts = min 65 (length (parts_within n table t));
  reach = min 18 (reach (parts_within n table t));
  unsound = some_below n is table t;
}

abbrev pub marked : List Bool → ℕ → Bool
marked marks t = get_or marks t false

abbrev pub nothing : Measure
nothing = record { words = 0; parts = 0; reach = 0; unsound = false }

-- That of a type with an unsound one in it, of which no more is said.
abbrev pub unsound_alone : Measure
unsound_alone = record { words = 0; parts = 0; reach = 0; unsound = true }

-- These are the measures of all types.
abbrev pub IsMeasured : (ℕ → Bool) → Table → List Measure → Type 0
IsMeasured is table values = (t : ℕ) → get_or values t nothing ≡ measured is (length table) table t

-- The measure of a type that is done; of another one, that an unsound type is in it.
abbrev pub measure_in : Measures → ℕ → Measure
measure_in measures t = if get_or measures.done.items t true then get_or measures.values.items t nothing else unsound_alone

-- A type that is done is measured; another one has an unsound type in it.
abbrev pub IsKnown : (ℕ → Bool) → Table → Measures → ℕ → Bool → Type 0
IsKnown is table measures t true = get_or measures.values.items t nothing ≡ measured is (length table) table t
IsKnown is table measures t false = IsTrue (some_below (length table) is table t)

-- These are the measures of all types that are looked at: of one that is unsound nothing is asked.
abbrev pub AreEnough : (ℕ → Bool) → Table → Measures → Type 0
AreEnough is table measures = (t : ℕ) → is t ≡ false → IsKnown is table measures t (get_or measures.done.items t true)

-- ---- a type, of its parts

abbrev pub word : ℕ → Measure
word parts = record { words = 1; parts = parts; reach = parts; unsound = false }

abbrev pub deeper : ℕ → ℕ
deeper r = if nat_eq r 0 then 0 else min 18 (r + 1)

abbrev pub component_of : Measure → Measure
component_of m = record { words = m.words; parts = m.parts; reach = deeper m.reach; unsound = m.unsound }

abbrev pub elements_of : ℕ → Measure → Measure
elements_of count m =
    record { words = min 65537 (count * m.words); parts = m.parts; reach = deeper m.reach; unsound = m.unsound }

abbrev pub joined : Measure → Measure → Measure
joined a b = record {
  words = min 65537 (a.words + b.words);
  parts = min 65 (a.parts + b.parts);
  reach = max a.reach b.reach;
  unsound = a.unsound || b.unsound;
}

abbrev pub fields_of : (ℕ → Measure) → Measure → List Component → Measure
fields_of part all [] = all
fields_of part all (c ∷ rest) = fields_of part (joined all (component_of (part c.of))) rest

abbrev pub shape_measure : (ℕ → Measure) → Shape → Measure
shape_measure part (shape.Whole low high) = word 0
shape_measure part (shape.Listed literals low high) = word 0
shape_measure part (shape.Access designated constant named) = word (if named then 1 else 0)
shape_measure part (shape.Fields components) = fields_of part nothing components
shape_measure part (shape.Elements low high element) = elements_of (span low high) (part element)
shape_measure part (shape.Same of) = part of

abbrev pub parent_unsound : (ℕ → Measure) → Option ℕ → Bool
parent_unsound part None = false
parent_unsound part (Some t) = (part t).unsound

abbrev pub info_measure : (ℕ → Measure) → Info → Measure
info_measure part i = record {
  words = (shape_measure part i.shape).words;
  parts = (shape_measure part i.shape).parts;
  reach = (shape_measure part i.shape).reach;
  unsound = (shape_measure part i.shape).unsound || parent_unsound part i.parent;
}

-- A part counts as unsound where it is so itself.
abbrev pub part_of : (ℕ → Bool) → (ℕ → Measure) → ℕ → Measure
part_of is m t =
    record { words = (m t).words; parts = (m t).parts; reach = (m t).reach; unsound = is t || (m t).unsound }

abbrev pub part_in : List Bool → List Measure → ℕ → Measure
part_in marks values = part_of (marked marks) (λ t. get_or values t nothing)
