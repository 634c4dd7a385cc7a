-- Lists of what the rules on the text report, in any order (docs/FLOW.md, "Actuals that overlap"
-- and "Views").
use Rattle.std.specs.Prelude.{List, map}
use Rattle.spark_base.specs.Lists.{Has}
use Rattle.place_names.specs.Reports.{Report}
use Rattle.flow_paths.specs.declared.report.Report.{Report as Listed}
use Rattle.flow_paths.specs.declared.report.Effects.{Effects}
use Rattle.flow_paths.specs.Laid.{FlowSub, FlowProgram}
use Rattle.flow_paths.specs.Aliases.{alias_reports}
use Rattle.flow_paths.specs.Views.{ViewReport}
use Rattle.flow_paths.specs.Reports.{report_of}

abbrev pub reports_in : List Listed → List Report
reports_in reports = map report_of reports

-- Exactly those of the rules on actuals.
pub record AreOfActuals (program : FlowProgram) (effects : Effects) (reports : List Listed) : Type 0 where
  pub sound : (r : Report) → Has (reports_in reports) r → Has (alias_reports program effects) r
  pub complete : (r : Report) → Has (alias_reports program effects) r → Has (reports_in reports) r

-- Some subprogram is reported for its views.
pub record IsOfViews (program : FlowProgram) (effects : Effects) (r : Report) : Type 0 where
  pub sub : FlowSub
  pub has : Has program.subs sub
  pub is : ViewReport program effects sub r

-- Exactly those of the rules on views, over all subprograms.
pub record AreOfViews (program : FlowProgram) (effects : Effects) (reports : List Listed) : Type 0 where
  pub sound : (r : Report) → Has (reports_in reports) r → IsOfViews program effects r
  pub complete : (r : Report) → IsOfViews program effects r → Has (reports_in reports) r
