-- What the rules on the text report, as all reports of a program are asked for.
use Rattle.std.proofs.Common.{◌≡◌, sym, subst, List}
use Rattle.spark_base.specs.Lists.{Has}
use Rattle.place_names.specs.Reports.{Report}
use Rattle.flow_paths.specs.declared.report.Report.{Report as Listed}
use Rattle.flow_paths.specs.declared.report.Effects.{Effects}
use Rattle.flow_paths.specs.Laid.{FlowProgram}
use Rattle.flow_paths.specs.Aliases.{alias_reports}
use Rattle.traversal_funcs.specs.ViewReports.{AreViewReports}
use Rattle.path_check.specs.Told.{reports_in, AreOfActuals, AreOfViews}

pub of_actuals : (program : FlowProgram) (effects : Effects) (reports : List Listed) → reports_in reports ≡ alias_reports program effects
    → AreOfActuals program effects reports
of_actuals program effects reports are = record {
  sound = λ r has. subst (λ (all : List Report). Has all r) are has;
  complete = λ r has. subst (λ (all : List Report). Has all r) (sym are) has;
}

pub of_views : (program : FlowProgram) (effects : Effects) (reports : List Listed) → AreViewReports program effects (reports_in reports)
    → AreOfViews program effects reports
of_views program effects reports are = record {
  sound = λ r has. let found = are.sound r has in record { sub = found.sub; has = found.among; is = found.reported };
  complete = λ r is. are.complete r is.sub is.has is.is;
}
