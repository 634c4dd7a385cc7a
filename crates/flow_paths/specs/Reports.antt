-- All reports of a program (docs/RULES.md, "Reports").
use Rattle.std.specs.Prelude.{List}
use Rattle.typed_tree.specs.spark_base.Lists.{Has}
use Rattle.typed_tree.specs.place_names.Reports.{Report, IsReportList}
use Rattle.flow_paths.specs.declared.report.Report.{Report as Told}
use Rattle.flow_paths.specs.declared.report.Effects.{Effects}
use Rattle.flow_paths.specs.Laid.{FlowSub, FlowProgram}
use Rattle.flow_paths.specs.Paths.{PathReport}
use Rattle.flow_paths.specs.Effects.{path_points}
use Rattle.flow_paths.specs.Aliases.{alias_reports}
use Rattle.flow_paths.specs.Views.{ViewReport}
use Rattle.flow_paths.specs.Printing.{printed_name}

abbrev pub report_of : Told → Report
report_of r = record { pos = r.pos; rule = r.rule; name = r.name; word = r.state }

-- What a program is reported for: by a rule on the text, or by a rule that some fact breaks at an
-- act which some control path reaches.
pub data ProgramReport (program : FlowProgram) (effects : Effects) (r : Report) : Type 0 where
  on_actuals : Has (alias_reports program effects) r → ProgramReport program effects r
  on_views : (sub : FlowSub) → Has program.subs sub → ViewReport program effects sub r → ProgramReport program effects r
  on_paths : (sub : FlowSub) → Has program.subs sub → PathReport (path_points program effects sub) r
      → ProgramReport program effects r

-- Exactly these, in order and without repeats. A program is accepted where there are none.
abbrev pub AreReports : FlowProgram → Effects → List Report → Type 0
AreReports program effects reports = IsReportList (printed_name program.table program.objects) (ProgramReport program effects) reports
