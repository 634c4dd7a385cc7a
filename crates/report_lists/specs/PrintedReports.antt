-- Reports with the texts of their names, in order (docs/RULES.md, "Reports").
use Rattle.std.specs.Prelude.{◌≡◌, ℕ, List}
use Rattle.std.specs.declared.cmp.Ordering.{Ordering}
use Rattle.std.specs.Ordering.{ordering_then, nat_cmp}
use Rattle.std.specs.Cmp.Lexicographic.{slice_cmp}
use Rattle.spark_base.specs.Positions.{position_cmp}
use Rattle.place_names.specs.Names.{Name}
use Rattle.place_names.specs.Reports.{Report, rule_rank, word_rank, selector_cmp}

-- A report, and the text of its name.
pub record Printed : Type 0 where
  pub report : Report
  pub text : List ℕ

-- The order of reports, where each has its own text.
abbrev pub printed_cmp : Printed → Printed → Ordering
printed_cmp a b =
    ordering_then (position_cmp a.report.pos b.report.pos)
    (ordering_then (nat_cmp (rule_rank a.report.rule) (rule_rank b.report.rule))
    (ordering_then (slice_cmp nat_cmp a.text b.text)
    (ordering_then (nat_cmp (word_rank a.report.word) (word_rank b.report.word))
    (ordering_then (nat_cmp b.report.name.root a.report.name.root)
    (slice_cmp selector_cmp a.report.name.sels b.report.name.sels)))))

-- A report has the text of its name.
abbrev pub IsPrinted : (Name → List ℕ) → Printed → Type 0
IsPrinted printed p = p.text ≡ printed p.report.name
