-- Names as text (docs/RULES.md, "Names of places").
use Rattle.std.specs.Prelude.{ℕ, List, [], ◌∷◌, ◌++◌, codes, get_or, slice_get, Option, Some, None}
use Rattle.type_definitions.specs.place_names.declared.selector.Sel.{Sel}
use Rattle.type_definitions.specs.place_names.declared.selector.Sel.TheVariants.{Field, Elem, Deref}
use Rattle.type_definitions.specs.place_names.Names.{Name}
use Rattle.type_definitions.specs.declared.table.Shape.{Shape}
use Rattle.type_definitions.specs.declared.table.Shape.TheVariants as shape
use Rattle.type_definitions.specs.declared.table.Info.{Info}
use Rattle.type_definitions.specs.Types.{Table, meant_type}
use Rattle.type_definitions.specs.Entries.{integer}
use Rattle.type_definitions.specs.Expressions.{no_component}
use Rattle.typed_tree.specs.declared.object.Object.{Object}

-- Where a selector leads from a place of a type, and how it is printed.
abbrev pub part_type : Shape → Sel → ℕ
part_type (shape.Fields components) (Field i) = (get_or components i no_component).of
part_type (shape.Access designated constant named) Deref = designated
part_type (shape.Elements low high element) Elem = element
part_type _ _ = integer

abbrev pub part_text : Shape → Sel → List ℕ
part_text _ Deref = codes ".all"
part_text _ Elem = codes "(?)"
part_text (shape.Fields components) (Field i) = codes "." ++ (get_or components i no_component).name
part_text _ (Field i) = codes "."

abbrev pub type_found : Option Info → Sel → ℕ
type_found None s = integer
type_found (Some i) s = part_type i.shape s

abbrev pub text_found : Option Info → Sel → List ℕ
text_found None s = []
text_found (Some i) s = part_text i.shape s

abbrev pub selected_type : Table → ℕ → Sel → ℕ
selected_type table t s = type_found (slice_get table (meant_type table t)) s

abbrev pub selected_text : Table → ℕ → Sel → List ℕ
selected_text table t s = text_found (slice_get table (meant_type table t)) s

abbrev pub selectors_text : Table → ℕ → List Sel → List ℕ
selectors_text table t [] = []
selectors_text table t (s ∷ rest) = selected_text table t s ++ selectors_text table (selected_type table t s) rest

-- A package and a dot stand before a package object.
abbrev pub package_text : Option (List ℕ) → List ℕ
package_text None = []
package_text (Some p) = p ++ codes "."

abbrev pub printed_object : Table → List Sel → Option Object → List ℕ
printed_object table sels None = []
printed_object table sels (Some o) = (package_text o.«package» ++ o.name) ++ selectors_text table o.of sels

-- A name as text.
abbrev pub printed : Table → List Object → Name → List ℕ
printed table objects m = printed_object table m.sels (slice_get objects m.root)
