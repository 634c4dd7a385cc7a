-- The first of the names that have too many selectors (docs/TOOL.md, "Limits").
use Rattle.std.specs.Prelude.{ℕ, ◌+◌, Bool, List, map, filter, length, nat_lt, Option, Some, None, if◌then◌else◌}
use Rattle.std.specs.List.{list_any}
use Rattle.spark_base.specs.declared.position.Pos.{Pos}
use Rattle.spark_base.specs.declared.limits.TheConstants.{SELECTORS}
use Rattle.place_names.specs.declared.selector.Sel.{Sel}
use Rattle.place_names.specs.Names.{Name}
use Rattle.type_definitions.specs.Types.{Table, parts}
use Rattle.flow_paths.specs.Objects.{designated}
use Rattle.flow_paths.specs.Names.{Written}
use Rattle.flow_paths.specs.Limits.{NameAt, is_deep, earlier, earliest}

-- The first of two positions, where there are any.
abbrev pub earlier_of : Option Pos → Option Pos → Option Pos
earlier_of None q = q
earlier_of (Some p) q = Some (earlier p q)

abbrev pub deep_in : List NameAt → Option Pos
deep_in names = earliest (map (λ n. n.pos) (filter (λ n. is_deep n.name) names))

abbrev pub found_if : Bool → Pos → Option Pos
found_if deep p = if deep then Some p else None

-- A name at a position.
abbrev pub name_deep : Pos → Name → Option Pos
name_deep p m = found_if (is_deep m) p

abbrev pub written_deep : Option Written → Option Pos
written_deep None = None
written_deep (Some m) = name_deep m.pos m.name

-- Parts of what has so many selectors.
abbrev pub is_past : ℕ → List Sel → Bool
is_past count q = nat_lt SELECTORS (count + length q)

abbrev pub parts_deep : Pos → ℕ → List (List Sel) → Option Pos
parts_deep p count qs = found_if (list_any (is_past count) qs) p

-- The access parts of a name that stands in the text.
abbrev pub spots_deep : Table → Option Written → Option Pos
spots_deep table None = None
spots_deep table (Some m) = parts_deep m.pos (length m.name.sels) (parts table m.of)

-- The access parts of what it designates.
abbrev pub freed_deep : Table → Option Written → Option Pos
freed_deep table None = None
freed_deep table (Some m) = parts_deep m.pos (length m.name.sels + 1) (parts table (designated table m.of))
