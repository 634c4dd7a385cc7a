-- What types give: words of objects without a value name no cell, and access parts are access values.
use Rattle.std.proofs.Common.{refl, sym, subst, ℕ, zero, suc, List, [], ◌∷◌, ◌++◌, map, length, slice_get, ℤ}
use Rattle.std.specs.Prelude.{flat_map}
use Rattle.std.proofs.lemmas.List.{map-append}
use Rattle.handled_runs.specs.type_definitions.declared.table.Component.{Component}
use Rattle.handled_runs.specs.type_definitions.declared.table.Shape.{Shape}
use Rattle.handled_runs.specs.type_definitions.declared.table.Shape.TheVariants as shape
use Rattle.handled_runs.specs.type_definitions.Types.{Table, shape_found, span}
use Rattle.handled_runs.specs.run_values.declared.value.Kind.{Kind}
use Rattle.handled_runs.specs.machine.Words.{Word, access_offsets, default, default_of, default_within}
use Rattle.handled_runs.specs.machine.Words as machine
use Rattle.handled_runs.specs.machine.Typed.{Sort, sorts, sorts_of, sorts_within, repeated_sorts}
use Rattle.handled_runs.specs.run_codes.Codes.{Room, Object, Counter, Sub}
use Rattle.handled_runs.specs.run_codes.Flat.{kind_of, kinds, untagged, default_words}
use Rattle.handled_runs.specs.run_codes.Points.{room_words, template}
use Rattle.handled_runs.specs.run_codes.Related.{IsTable}
use Rattle.handled_runs.proofs.run_codes.Moves.{pointers_there}
use Rattle.handled_runs.specs.Alike.{AreNumbers}
use Rattle.handled_steps.specs.Alike.{room_kinds, frame_kinds}
use Rattle.handled_steps.specs.Looks.{HavePointers}

pub numbers_append : (is js : List Kind) (xs ys : List ℤ) → AreNumbers is xs → AreNumbers js ys → AreNumbers (is ++ js) (xs ++ ys)
numbers_append [] js [] ys first second = second
numbers_append [] js (x ∷ xs) ys first second = absurd first
numbers_append (i ∷ is) js [] ys first second = absurd first
numbers_append (i ∷ is) js (x ∷ xs) ys first second = (first.0, numbers_append is js xs ys first.1 second)

-- ---- types

abbrev Numbers : List Sort → List Word → Type 0
Numbers all ws = AreNumbers (map kind_of all) (map untagged ws)

sorts_append : (is js : List Sort) (xs ys : List Word) → Numbers is xs → Numbers js ys → Numbers (is ++ js) (xs ++ ys)
sorts_append is js xs ys first second =
    subst (λ ks. AreNumbers ks (map untagged (xs ++ ys))) (sym (map-append kind_of is js))
    (subst (AreNumbers (map kind_of is ++ map kind_of js)) (sym (map-append untagged xs ys))
    (numbers_append (map kind_of is) (map kind_of js) (map untagged xs) (map untagged ys) first second))

all_repeated : (n : ℕ) (all : List Sort) (ws : List Word) → Numbers all ws → Numbers (repeated_sorts n all) (machine.repeated n ws)
all_repeated zero all ws are = tt
all_repeated (suc n) all ws are = sorts_append all (repeated_sorts n all) ws (machine.repeated n ws) are (all_repeated n all ws are)

module _ (sorts_in : ℕ → List Sort) (defaults : ℕ → List Word) (are : (t : ℕ) → Numbers (sorts_in t) (defaults t)) where
  all_fields : (components : List Component) → Numbers (flat_map (λ (c : Component). sorts_in c.of) components) (flat_map (λ (c : Component). defaults c.of) components)
  all_fields [] = tt
  all_fields (c ∷ rest) =
      sorts_append (sorts_in c.of) (flat_map (λ (d : Component). sorts_in d.of) rest) (defaults c.of) (flat_map (λ (d : Component). defaults d.of) rest) (are c.of) (all_fields rest)

  of_shape : (t : ℕ) (s : Shape) → Numbers (sorts_of sorts_in s) (default_of defaults t s)
  of_shape t (shape.Whole low high) = (tt, tt)
  of_shape t (shape.Listed literals low high) = (tt, tt)
  of_shape t (shape.Access designated constant named) = (refl, tt)
  of_shape t (shape.Fields components) = all_fields components
  of_shape t (shape.Elements low high element) = all_repeated (span low high) (sorts_in element) (defaults element) (are element)
  of_shape t (shape.Same of) = are of

all_within : (n : ℕ) (table : Table) (t : ℕ) → Numbers (sorts_within n table t) (default_within n table t)
unfolding sorts_within default_within
all_within zero table t = tt
all_within (suc n) table t = of_shape (sorts_within n table) (default_within n table) (all_within n table) t (shape_found (slice_get table t))

pub defaults_numbers : (table : Table) (t : ℕ) → AreNumbers (kinds table t) (default_words table t)
unfolding sorts default
defaults_numbers table t = all_within (length table) table t

-- ---- frames without a value

room_numbers : (table : Table) (r : Room) → AreNumbers (room_kinds table r) (room_words table r)
room_numbers table (Object of) = defaults_numbers table of
room_numbers table Counter = (tt, (tt, (tt, tt)))

rooms_numbers : (table : Table) (rooms : List Room) → AreNumbers (flat_map (room_kinds table) rooms) (flat_map (room_words table) rooms)
rooms_numbers table [] = tt
rooms_numbers table (r ∷ rest) =
    numbers_append (room_kinds table r) (flat_map (room_kinds table) rest) (room_words table r) (flat_map (room_words table) rest) (room_numbers table r) (rooms_numbers table rest)

pub template_numbers : (table : Table) (sub : Sub) → AreNumbers (frame_kinds table sub) (template table sub)
template_numbers table sub = rooms_numbers table sub.rooms

-- ---- access parts

pub have_pointers : (table : Table) → IsTable table → HavePointers table
have_pointers table laws t = pointers_there (sorts table t) (access_offsets table t) (λ o has. laws.accesses t o has)
