-- Lines with the texts of their names, and their order.
use Rattle.std.specs.Prelude.{ℕ, List}
use Rattle.std.specs.declared.cmp.Ordering.{Ordering}
use Rattle.std.specs.Ordering.{ordering_then, nat_cmp, bool_cmp}
use Rattle.std.specs.Cmp.Lexicographic.{slice_cmp}
use Rattle.spark_base.specs.Positions.{position_cmp}
use Rattle.place_names.specs.Names.{Name}
use Rattle.place_names.specs.Reports.{selector_cmp}
use Rattle.flow_paths.specs.declared.report.LeakLine.{LeakLine}

-- A line, and the text of its name.
pub record Printed : Type 0 where
  pub line : LeakLine
  pub text : List ℕ

-- The order of lines, where each has its own text.
abbrev pub check_cmp : Printed → Printed → Ordering
check_cmp a b =
    ordering_then (position_cmp a.line.pos b.line.pos)
    (ordering_then (slice_cmp nat_cmp a.text b.text)
    (ordering_then (nat_cmp b.line.name.root a.line.name.root) (slice_cmp selector_cmp a.line.name.sels b.line.name.sels)))

abbrev pub printed_cmp : Printed → Printed → Ordering
printed_cmp a b = ordering_then (check_cmp a b) (bool_cmp a.line.excused b.line.excused)

-- A line with the text of its name.
abbrev pub told : (Name → List ℕ) → LeakLine → Printed
told printed line = record { line = line; text = printed line.name }
