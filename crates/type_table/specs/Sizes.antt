-- What the types of a table are made of (docs/LANGUAGE.md, "Types").
use Rattle.std.specs.Prelude.{◌≡◌, ℕ, false, List, [], get_or}
use Rattle.type_definitions.specs.Types.{Table, words, parts, is_owning}
use Rattle.type_table.specs.declared.table.TypeSize.{TypeSize}

-- What has no number in the table has nothing.
abbrev pub no_size : TypeSize
no_size = record { words = 0; owning = false; parts = [] }

abbrev pub size_of : Table → ℕ → TypeSize
size_of table t = record { words = words table t; owning = is_owning table t; parts = parts table t }

-- These are the sizes of all types.
abbrev pub AreSizes : Table → List TypeSize → Type 0
AreSizes table sizes = (t : ℕ) → get_or sizes t no_size ≡ size_of table t
