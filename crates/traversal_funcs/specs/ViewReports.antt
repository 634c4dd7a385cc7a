-- What V1 to V4 report of a program (docs/FLOW.md, "Views").
use Rattle.std.specs.Prelude.{List}
use Rattle.spark_base.specs.Lists.{Has}
use Rattle.place_names.specs.Reports.{Report}
use Rattle.flow_paths.specs.declared.report.Effects.{Effects}
use Rattle.flow_paths.specs.Laid.{FlowSub, FlowProgram}
use Rattle.flow_paths.specs.Views.{ViewReport}

-- The report of some of these subprograms.
pub record ReportOf (program : FlowProgram) (effects : Effects) (subs : List FlowSub) (r : Report) : Type 0 where
  pub sub : FlowSub
  pub among : Has subs sub
  pub reported : ViewReport program effects sub r

-- Exactly the reports of these subprograms, in any order.
pub record AreReportsOf (program : FlowProgram) (effects : Effects) (subs : List FlowSub) (reports : List Report) : Type 0 where
  pub sound : (r : Report) → Has reports r → ReportOf program effects subs r
  pub complete : (r : Report) (sub : FlowSub) → Has subs sub → ViewReport program effects sub r → Has reports r

-- Exactly those of the program.
abbrev pub AreViewReports : FlowProgram → Effects → List Report → Type 0
AreViewReports program effects reports = AreReportsOf program effects program.subs reports
