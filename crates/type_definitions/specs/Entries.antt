-- What the declarations of a program are, by their numbers.
use Rattle.std.specs.Prelude.{ℕ, Bool, true, false, List, get_or, Option, Some, None}
use Rattle.std.specs.Cmp.Lexicographic.{pointwise}
use Rattle.std.specs.Char.{to_ascii_lowercase}
use Rattle.std.specs.Prelude.{map, nat_eq}
use Rattle.resolved_tree.specs.spark_base.declared.position.Pos.{Pos}
use Rattle.resolved_tree.specs.declared.node.Mark.{Mark}
use Rattle.type_definitions.specs.declared.table.Entry.{Entry}
use Rattle.type_definitions.specs.declared.table.Entry.TheVariants as entry
use Rattle.type_definitions.specs.declared.table.Known.{Known}
use Rattle.type_definitions.specs.Types.{info, untyped}
use Rattle.type_definitions.specs.Faults.{is_before}

abbrev pub entry_of : Known → ℕ → Entry
entry_of known d = get_or known.entries d entry.Nothing

-- The predefined types, whose declarations are the first.
abbrev pub integer : ℕ
integer = 0

abbrev pub boolean : ℕ
boolean = 3

-- Two identifiers are the same in any case of letters (Ada 2012, 2.3(5)).
abbrev pub same_word : List ℕ → List ℕ → Bool
same_word a b = pointwise nat_eq (map to_ascii_lowercase a) (map to_ascii_lowercase b)

abbrev pub is_type : Entry → Bool
is_type entry.Type = true
is_type _ = false

-- What a mark denotes. Where that is no type, the mark breaks K1, maybe later in the text than its
-- use: it may stand in a full type.
abbrev pub type_of_entry : ℕ → Entry → ℕ
type_of_entry d entry.Type = d
type_of_entry d _ = untyped

abbrev pub type_of_mark : Known → Option ℕ → ℕ
type_of_mark known None = untyped
type_of_mark known (Some d) = type_of_entry d (entry_of known d)

abbrev pub marked : Known → Mark → ℕ
marked known m = type_of_mark known m.decl

abbrev pub denotes_type : Known → Option ℕ → Bool
denotes_type known None = false
denotes_type known (Some d) = is_type (entry_of known d)

-- An incomplete type is complete from the end of its full type on (Ada 2012, 3.10.1).
abbrev pub complete_at : Option Pos → Pos → Bool
complete_at None at = true
complete_at (Some end) at = is_before end at

unfoldable pub is_complete : Known → ℕ → Pos → Bool
is_complete known t at = complete_at (info known.table t).completed at
