-- What was put in is all that a program is reported for.
use Rattle.std.proofs.Common.{◌≡◌, ◌⊎◌, sym, subst, inl, inr, ℕ, List, [], map}
use Rattle.std.specs.List.Sorted.{IsStrictlySortedBy}
use Rattle.spark_base.specs.Lists.{Has}
use Rattle.spark_base.proofs.Lists.{Has-map, Has-map_from}
use Rattle.place_names.specs.Names.{Name}
use Rattle.place_names.specs.Reports.{Report}
use Rattle.report_lists.specs.PrintedReports.{Printed, printed_cmp}
use Rattle.report_lists.specs.Gains.{put_told, Gains}
use Rattle.report_lists.proofs.Gained.{gains_put, gains_same, gains_both, gained_list}
use Rattle.flow_paths.specs.declared.report.Report.{Report as Listed}
use Rattle.flow_paths.specs.declared.report.Effects.{Effects}
use Rattle.flow_paths.specs.Laid.{FlowSub}
use Rattle.flow_paths.specs.Stands.{flow_sub_of}
use Rattle.flow_paths.specs.Effects.{path_points}
use Rattle.flow_paths.specs.Paths.{PathReport}
use Rattle.flow_paths.specs.Printing.{printed_name}
use Rattle.flow_paths.specs.Reports.{ProgramReport, on_actuals, on_views, on_paths, AreReports}
use Rattle.path_reports.proofs.CalledPaths.{called_path_points}
use Rattle.laid_program.specs.declared.laid.Laid.{Laid}
use Rattle.laid_program.specs.Programs.{program_of}
use Rattle.path_check.specs.Told.{reports_in, AreOfActuals, AreOfViews}
use Rattle.path_check.specs.Paths.{OnPaths}

-- what was put in, of the three kinds
abbrev Kinds : Laid → Effects → List Listed → List Listed → Report → Type 0
Kinds laid effects alias views r = (Has (reports_in alias) r ⊎ Has (reports_in views) r) ⊎ OnPaths laid.objects effects laid.subs r

to_program : (laid : Laid) (effects : Effects) (alias views : List Listed) → AreOfActuals (program_of laid) effects alias
    → AreOfViews (program_of laid) effects views → (r : Report) → Kinds laid effects alias views r → ProgramReport (program_of laid) effects r
to_program laid effects alias views of_actuals of_views r kind = elim kind [
  | inl text ↦ elim text [
    | inl actuals ↦ on_actuals (of_actuals.sound r actuals)
    | inr seen ↦ (let v = of_views.sound r seen in on_views v.sub v.has v.is)
  ]
  | inr path ↦ on_paths (flow_sub_of laid.rows path.sub) (Has-map (flow_sub_of laid.rows) laid.subs path.sub path.has)
      (subst (λ points. PathReport points r) (called_path_points (program_of laid) effects laid.rows path.sub) path.is)
]

path_of : (laid : Laid) (effects : Effects) (r : Report) (sub : FlowSub) → Has (program_of laid).subs sub → PathReport (path_points (program_of laid) effects sub) r
    → OnPaths laid.objects effects laid.subs r
path_of laid effects r sub h path =
    let found = Has-map_from (flow_sub_of laid.rows) laid.subs sub h in
    record {
      sub = found.0;
      has = found.1;
      is = subst (λ points. PathReport points r) (sym (called_path_points (program_of laid) effects laid.rows found.0))
          (subst (λ (x : FlowSub). PathReport (path_points (program_of laid) effects x) r) (sym found.2) path);
    }

from_program : (laid : Laid) (effects : Effects) (alias views : List Listed) → AreOfActuals (program_of laid) effects alias
    → AreOfViews (program_of laid) effects views → (r : Report) → ProgramReport (program_of laid) effects r → Kinds laid effects alias views r
from_program laid effects alias views of_actuals of_views r (on_actuals h) = inl (inl (of_actuals.complete r h))
from_program laid effects alias views of_actuals of_views r (on_views sub h v) =
    inl (inr (of_views.complete r (record { sub = sub; has = h; is = v })))
from_program laid effects alias views of_actuals of_views r (on_paths sub h path) = inr (path_of laid effects r sub h path)

-- the three kinds, one after the other
pub all_put : (laid : Laid) (effects : Effects) (alias views : List Listed) (one two set : List Printed) (reports : List Report)
    → AreOfActuals (program_of laid) effects alias → AreOfViews (program_of laid) effects views
    → one ≡ put_told (printed_name laid.table laid.objects) [] (reports_in alias)
    → two ≡ put_told (printed_name laid.table laid.objects) one (reports_in views)
    → Gains (printed_name laid.table laid.objects) (OnPaths laid.objects effects laid.subs) two set
    → IsStrictlySortedBy printed_cmp set → reports ≡ map (λ (p : Printed). p.report) set
    → AreReports (program_of laid) effects reports
all_put laid effects alias views one two set reports of_actuals of_views first second third sorted is =
    let printed : Name → List ℕ = printed_name laid.table laid.objects in
    let a : Gains printed (Has (reports_in alias)) [] one = subst (Gains printed (Has (reports_in alias)) []) (sym first) (gains_put printed (reports_in alias) []) in
    let b : Gains printed (Has (reports_in views)) one two = subst (Gains printed (Has (reports_in views)) one) (sym second) (gains_put printed (reports_in views) one) in
    let text = gains_both printed (Has (reports_in alias)) (Has (reports_in views)) [] one two a b in
    let all = gains_both printed (λ r. Has (reports_in alias) r ⊎ Has (reports_in views) r) (OnPaths laid.objects effects laid.subs) [] two set text third in
    let gains = gains_same printed (Kinds laid effects alias views) (ProgramReport (program_of laid) effects) [] set
    (to_program laid effects alias views of_actuals of_views) (from_program laid effects alias views of_actuals of_views) all in
    subst (AreReports (program_of laid) effects) (sym is) (gained_list printed (ProgramReport (program_of laid) effects) set gains sorted)
