-- The order of positions, and positions as text (docs/TOOL.md, "Lines").
use Rattle.std.specs.Prelude.{◌≡◌, ℕ, List, [], ◌∷◌, ◌++◌, slice_get, unwrap_or}
use Rattle.std.specs.declared.cmp.Ordering.{Ordering}
use Rattle.std.specs.declared.cmp.Ordering.TheVariants.{Less}
use Rattle.std.specs.Ordering.{ordering_then, nat_cmp}
use Rattle.std.specs.Fmt.{decimal}
use Rattle.spark_base.specs.declared.position.Pos.{Pos}

-- Positions go by file, in the order of the command line, then by line, then by column.
abbrev pub position_cmp : Pos → Pos → Ordering
position_cmp a b = ordering_then (nat_cmp a.file b.file) (ordering_then (nat_cmp a.line b.line) (nat_cmp a.column b.column))

-- The first position stands before the other.
abbrev pub Precedes : Pos → Pos → Type 0
Precedes a b = position_cmp a b ≡ Less

-- The name of a file by its number.
abbrev pub file_name : List (List ℕ) → ℕ → List ℕ
file_name files file = unwrap_or (slice_get files file) []

-- FILE:LINE:COLUMN. A colon is 58, and numbers are decimal without leading zeros.
abbrev pub position_text : List (List ℕ) → Pos → List ℕ
position_text files pos = file_name files pos.file ++ (58 ∷ decimal pos.line) ++ (58 ∷ decimal pos.column)
